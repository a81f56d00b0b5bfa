-- Varied letters: octets of a name, and its labels.
use Rattle.std.proofs.Common.{◌≡◌, ℕ, suc, ◌+◌, ◌<◌, Bool, true, false, cond, ◌||◌, eqb, ltb, List, [], ◌∷◌, ◌++◌, length, get_or, drop, append_assoc, refl, ap, ap₂, sym, ◌∙◌, arith}
use Rattle.std.specs.Prelude.{Option, None, Some}
use Rattle.std.specs.Char.{is_ascii_alphabetic}
use Rattle.std.specs.List.{list_any, sum_by}
use Rattle.std.proofs.lemmas.Bool.{ltb-false}
use Rattle.std.proofs.lemmas.Bool.Decides.{nat_tests}
use Rattle.std.proofs.lemmas.List.{drop_more}
use Rattle.std.proofs.lemmas.List.Sums.{sum_by-cons}
use Rattle.hickory_proto_core.specs.Name.{is_long_label, label_fault}
use Rattle.hickory_proto_core.specs.names.name_error.NameError.TheVariants as names
use Rattle.hickory_proto_wire.specs.Written.{name_octets}
use Rattle.hickory_resolver_tries.specs.Letters.{is_set, other_case, varied_octet, next_place, varied_octets, place_behind, varied_labels}
use Rattle.hickory_resolver_tries.specs.Tries.{labels_sent, octets_sent}

pub length-varied : (bits : List ℕ) (place : ℕ) (xs : List ℕ) → length (varied_octets bits place xs) ≡ length xs
length-varied bits place [] = refl
length-varied bits place (x ∷ xs) = ap suc (length-varied bits (next_place place x) xs)

varied-append : (bits : List ℕ) (place : ℕ) (xs ys : List ℕ)
    → varied_octets bits place (xs ++ ys)
    ≡ varied_octets bits place xs ++ varied_octets bits (place_behind place xs) ys
varied-append bits place [] ys = refl
varied-append bits place (x ∷ xs) ys =
    ap (λ (z : List ℕ). varied_octet bits place x ∷ z) (varied-append bits (next_place place x) xs ys)

-- the length of a label is no letter
no_letter : (n : ℕ) → n < 64 → is_ascii_alphabetic n ≡ false
no_letter n h = grind (arith, nat_tests)

stays : (bits : List ℕ) (place n : ℕ) (xs : List ℕ) → is_ascii_alphabetic n ≡ false
    → varied_octets bits place (n ∷ xs) ≡ n ∷ varied_octets bits place xs
stays bits place n xs e =
    ap (λ t. cond t (cond (is_set bits place) (other_case n) n) n ∷ varied_octets bits (cond t (place + 1) place) xs) e

or_parts : (a b : Bool) → (a || b) ≡ false → (a ≡ false) × (b ≡ false)
or_parts true b e = absurd cc
or_parts false b e = (refl, e)

short_enough : (n : ℕ) → ltb 63 n ≡ false → n < 64
short_enough n e = let h = ltb-false 63 n e in omega (arith, h)

pub varied-name : (bits : List ℕ) (place : ℕ) (ls : List (List ℕ)) → list_any is_long_label ls ≡ false
    → varied_octets bits place (name_octets [] ls) ≡ name_octets [] (varied_labels bits place ls)
varied-name bits place [] h = refl
varied-name bits place (l ∷ ls) h =
    let p = or_parts (is_long_label l) (list_any is_long_label ls) h in
    let behind = place_behind place l in
    stays bits place (length l) (l ++ name_octets [] ls) (no_letter (length l) (short_enough (length l) p.0))
    ∙ ap (λ (z : List ℕ). length l ∷ z) (varied-append bits place l (name_octets [] ls))
    ∙ ap₂ (λ (n : ℕ) (z : List ℕ). n ∷ (varied_octets bits place l ++ z)) (sym (length-varied bits place l))
    (varied-name bits behind ls p.1)

pub sent-name : (letters : Option (List ℕ)) (ls : List (List ℕ)) → list_any is_long_label ls ≡ false
    → octets_sent letters (name_octets [] ls) ≡ name_octets [] (labels_sent letters ls)
sent-name None ls h = refl
sent-name (Some bits) ls h = varied-name bits 0 ls h

-- ---- the labels are a name as before

any-varied : (test : ℕ → Bool) (bits : List ℕ) (place : ℕ) (ls : List (List ℕ))
    → list_any (λ (l : List ℕ). test (length l)) (varied_labels bits place ls)
    ≡ list_any (λ (l : List ℕ). test (length l)) ls
any-varied test bits place [] = refl
any-varied test bits place (l ∷ ls) =
    ap₂ (λ (a b : Bool). a || b) (ap test (length-varied bits place l))
    (any-varied test bits (place_behind place l) ls)

sum-varied : (bits : List ℕ) (place : ℕ) (ls : List (List ℕ))
    → sum_by (λ (l : List ℕ). length l + 1) (varied_labels bits place ls) ≡ sum_by (λ (l : List ℕ). length l + 1) ls
sum-varied bits place [] = refl
sum-varied bits place (l ∷ ls) =
    let f : List ℕ → ℕ = λ l. length l + 1 in
    sum_by-cons f (varied_octets bits place l) (varied_labels bits (place_behind place l) ls)
    ∙ ap₂ (λ (a b : ℕ). (a + 1) + b) (length-varied bits place l) (sum-varied bits (place_behind place l) ls)
    ∙ sym (sum_by-cons f l ls)

pub label_fault-sent : (letters : Option (List ℕ)) (ls : List (List ℕ))
    → label_fault (labels_sent letters ls) ≡ label_fault ls
label_fault-sent None ls = refl
label_fault-sent (Some bits) ls =
    let empty = any-varied (λ n. eqb n 0) bits 0 ls in
    let long = any-varied (λ n. ltb 63 n) bits 0 ls in
    let sum = sum-varied bits 0 ls in
    λ i. cond (empty i) (Some names.EmptyLabel) (cond (long i) (Some names.LabelTooLong)
    (cond (ltb 255 (sum i + 1)) (Some names.NameTooLong) None))

-- ---- octet by octet

pub varied_step : (bits octets out next whole : List ℕ) (i place x after : ℕ) → i < length octets
    → next ≡ out ++ x ∷ [] → x ≡ varied_octet bits place (get_or octets i 0) → after ≡ next_place place (get_or octets i 0)
    → out ++ varied_octets bits place (drop i octets) ≡ whole
    → next ++ varied_octets bits after (drop (i + 1) octets) ≡ whole
varied_step bits octets out next whole i place x after lt en ex ea so_far =
    let more = varied_octets bits (next_place place (get_or octets i 0)) (drop (i + 1) octets) in
    ap₂ (λ (o : List ℕ) (p : ℕ). o ++ varied_octets bits p (drop (i + 1) octets)) (en ∙ ap (λ (y : ℕ). out ++ y ∷ []) ex) ea
    ∙ append_assoc out (varied_octet bits place (get_or octets i 0) ∷ []) more
    ∙ ap (λ (o : List ℕ). out ++ varied_octets bits place o) (sym (drop_more octets i 0 lt)) ∙ so_far
