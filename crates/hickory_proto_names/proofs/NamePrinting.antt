-- Printing names, and reading back what was printed.
use Rattle.std.proofs.Common.{◌≡◌, ℕ, zero, suc, ◌+◌, ◌*◌, ◌-◌, ◌/◌, ◌%◌, ◌<◌, Bool, true, false, List, [], ◌∷◌, ◌++◌, map, length, take, drop, get_or, nat_lt, None, sym, refl, ap, ap₂, ◌∙◌, append_assoc, append-nil, arith, add-one, ⊎_elim, if◌then◌else◌}
use Rattle.std.proofs.Math.Seq.{take-length, take-append_seam}
use Rattle.std.specs.Fmt.{decimal}
use Rattle.std.specs.List.{list_all, list_any, join_with_byte}
use Rattle.std.specs.Global.{Vec}
use Rattle.std.specs.Str.{IsAscii}
use Rattle.std.proofs.lemmas.Fmt.{decimal_digit}
use Rattle.std.proofs.lemmas.List.{take_more, map-append, length-append}
use Rattle.std.proofs.lemmas.List.Folds.{list_all-append}
use Rattle.std.proofs.lemmas.Bool.{and_from, and_parts, or_parts, lt-ltb, ltb-true, cases_Bool}
use Rattle.hickory_proto_names.specs.Name.{NameValue, label_bytes, label_fault, is_bytes, are_bytes, is_empty_label, is_long_label, wire_len}
use Rattle.hickory_proto_names.specs.NameText.{is_plain, may_stand, is_piece, numbered, itself, written_byte, written_text, printed, printed_label, piece_text, piece_bytes, ends_empty, marked_name, pieces_name, labels_text, name_text, Spells}
use Rattle.hickory_proto_names.proofs.Labels.{no_fault}
use Rattle.hickory_proto_names.specs.NameSteps.{ends_empty-last}

-- three digits, as they are written one by one
pub byte_digits : (first : Bool) (b : ℕ) → b < 256 → false ≡ is_plain first b → 92 ∷ (decimal (b / 100) ++ (decimal (b / 10 % 10) ++ decimal (b % 10))) ≡ written_text (printed first b)
byte_digits first b small other =
    ap₂ (λ x y. 92 ∷ (x ++ y)) (decimal_digit (b / 100) (omega arith)) (ap₂ (λ x y. x ++ y) (decimal_digit (b / 10 % 10) (omega arith)) (decimal_digit (b % 10) (omega arith)))
    ∙ ap (λ p. written_text (if p then itself b else numbered (b / 100) (b / 10 % 10) (b % 10))) other

later_plain : (bs : List ℕ) → list_all (is_plain false) bs ≡ true → piece_text (map (printed false) bs) ≡ bs
later_plain [] h = refl
later_plain (b ∷ bs) h =
    let parts = and_parts (is_plain false b) (list_all (is_plain false) bs) h in
    ap₂ (λ p xs. written_text (if p then itself b else numbered (b / 100) (b / 10 % 10) (b % 10)) ++ xs) parts.0 (later_plain bs parts.1)

-- the list behind the first element, as code reads it
behind : {A : Type 0} (x : A) (xs : List A) → take (length (x ∷ xs) - 1) xs ≡ xs
behind x xs = let same : length (x ∷ xs) - 1 ≡ length xs = omega arith in rw same (take-length xs)

-- a label is printed as its bytes where each of them stands for itself
pub printed_plain : (l : List ℕ) → 0 < length l → is_plain true (get_or l 0 0) ≡ true
    → list_all (is_plain false) (take (length l - 1) (drop 1 l)) ≡ true → l ≡ piece_text (printed_label l)
printed_plain [] some first later = absurd (omega arith)
printed_plain (b ∷ bs) some first later =
    let plain : list_all (is_plain false) bs ≡ true = ap (list_all (is_plain false)) (sym (behind b bs)) ∙ later in
    sym (ap₂ (λ p xs. written_text (if p then itself b else numbered (b / 100) (b / 10 % 10) (b % 10)) ++ xs) first (later_plain bs plain))

-- a byte that stands for itself is ASCII
plain_ascii : (first : Bool) (b : ℕ) → is_plain first b ≡ true → b < 128
plain_ascii true b h = grind arith
plain_ascii false b h = grind arith

later_ascii : (bs : List ℕ) → list_all (is_plain false) bs ≡ true → IsAscii bs
later_ascii [] h i = omega arith
later_ascii (b ∷ bs) h zero = plain_ascii false b (and_parts (is_plain false b) (list_all (is_plain false) bs) h).0
later_ascii (b ∷ bs) h (suc i) = later_ascii bs (and_parts (is_plain false b) (list_all (is_plain false) bs) h).1 i

-- and so is a label of such bytes
pub label_ascii : (l : List ℕ) → 0 < length l → is_plain true (get_or l 0 0) ≡ true
    → list_all (is_plain false) (take (length l - 1) (drop 1 l)) ≡ true → IsAscii l
label_ascii [] some first later i = absurd (omega arith)
label_ascii (b ∷ bs) some first later zero = plain_ascii true b first
label_ascii (b ∷ bs) some first later (suc i) = later_ascii bs (ap (list_all (is_plain false)) (sym (behind b bs)) ∙ later) i

join-push : (xs : List (List ℕ)) (x : List ℕ) → 0 < length xs → join_with_byte 46 (xs ++ x ∷ []) ≡ join_with_byte 46 xs ++ (46 ∷ x)
join-push [] x h = absurd (omega arith)
join-push (y ∷ []) x h = refl
join-push (y ∷ z ∷ zs) x h = ap (λ l. y ++ (46 ∷ l)) (join-push (z ∷ zs) x (omega arith)) ∙ sym (append_assoc y (46 ∷ join_with_byte 46 (z ∷ zs)) (46 ∷ x))

-- one more label, behind a dot
pub labels_text-more : (vs : List (Vec ℕ)) (i : ℕ) (v : Vec ℕ) (bytes : List ℕ) → i < length (take (length vs - 1) (drop 1 vs)) → v ≡ get_or (take (length vs - 1) (drop 1 vs)) i v → bytes ≡ v.items
    → labels_text (label_bytes (take (i + 1) vs)) ++ (46 ∷ piece_text (printed_label bytes)) ≡ labels_text (label_bytes (take (i + 1 + 1) vs))
labels_text-more [] i v bytes h e k = absurd (omega arith)
labels_text-more (u ∷ us) i v bytes h e k =
    ap₂ (λ (l : List (Vec ℕ)) (bs : List ℕ). labels_text (label_bytes l) ++ (46 ∷ piece_text (printed_label bs))) (front i) (k ∙ ap (λ w. w.items) here)
    ∙ sym (join-push (texts (u ∷ take i us)) (text (get_or us i v)) (omega arith))
    ∙ ap (join_with_byte 46) (sym (texts-push (u ∷ take i us) (get_or us i v)))
    ∙ ap (λ l. labels_text (label_bytes (u ∷ l))) (sym (take_more us i v inside))
    ∙ ap (λ l. labels_text (label_bytes l)) (sym (front (i + 1)))
  where
    text : Vec ℕ → List ℕ
    text w = piece_text (printed_label w.items)

    texts : List (Vec ℕ) → List (List ℕ)
    texts ws = map (λ l. piece_text (printed_label l)) (label_bytes ws)

    texts-push : (ws : List (Vec ℕ)) (w : Vec ℕ) → map (λ l. piece_text (printed_label l)) (label_bytes (ws ++ w ∷ [])) ≡ map (λ l. piece_text (printed_label l)) (label_bytes ws) ++ piece_text (printed_label w.items) ∷ []
    texts-push ws w = ap (map (λ l. piece_text (printed_label l))) (map-append (λ x. x.items) ws (w ∷ [])) ∙ map-append (λ l. piece_text (printed_label l)) (label_bytes ws) (w.items ∷ [])

    inside : i < length us
    inside = rw (← behind u us) h

    here : v ≡ get_or us i v
    here = e ∙ ap (λ l. get_or l i v) (behind u us)

    front : (n : ℕ) → take (n + 1) (u ∷ us) ≡ u ∷ take n us
    front n = rw add-one refl

-- ---- what was printed spells the name

digits_again : (b : ℕ) → 100 * (b / 100) + 10 * (b / 10 % 10) + b % 10 ≡ b
digits_again b = omega arith

printed-stands : (first : Bool) (b : ℕ) → b < 256 → may_stand first (printed first b) ≡ true
printed-stands first b small = ⊎_elim plain other (cases_Bool (is_plain first b))
  where
    plain : is_plain first b ≡ true → may_stand first (printed first b) ≡ true
    plain e = ap (λ p. may_stand first (if p then itself b else numbered (b / 100) (b / 10 % 10) (b % 10))) e ∙ e

    stands : may_stand first (numbered (b / 100) (b / 10 % 10) (b % 10)) ≡ true
    stands =
        and_from _ _ (and_from _ _ (and_from _ _ (lt-ltb (b / 100) 10 (omega arith)) (lt-ltb (b / 10 % 10) 10 (omega arith))) (lt-ltb (b % 10) 10 (omega arith)))
        (lt-ltb _ 256 (omega (arith, digits_again b)))

    other : is_plain first b ≡ false → may_stand first (printed first b) ≡ true
    other e = ap (λ p. may_stand first (if p then itself b else numbered (b / 100) (b / 10 % 10) (b % 10))) e ∙ stands

printed-byte : (first : Bool) (b : ℕ) → written_byte (printed first b) ≡ b
printed-byte first b = by_test (is_plain first b)
  where
    by_test : (p : Bool) → written_byte (if p then itself b else numbered (b / 100) (b / 10 % 10) (b % 10)) ≡ b
    by_test true = refl
    by_test false = digits_again b

later-stand : (bs : List ℕ) → is_bytes bs ≡ true → list_all (may_stand false) (map (printed false) bs) ≡ true
later-stand [] h = refl
later-stand (b ∷ bs) h =
    let parts = and_parts (nat_lt b 256) (is_bytes bs) h in
    and_from _ _ (printed-stands false b (ltb-true b 256 parts.0)) (later-stand bs parts.1)

later-bytes : (bs : List ℕ) → map written_byte (map (printed false) bs) ≡ bs
later-bytes [] = refl
later-bytes (b ∷ bs) = ap₂ (λ x xs. x ∷ xs) (printed-byte false b) (later-bytes bs)

label-stands : (l : List ℕ) → is_bytes l ≡ true → is_piece (printed_label l) ≡ true
label-stands [] h = refl
label-stands (b ∷ bs) h =
    let parts = and_parts (nat_lt b 256) (is_bytes bs) h in
    and_from _ _ (printed-stands true b (ltb-true b 256 parts.0)) (later-stand bs parts.1)

label-bytes : (l : List ℕ) → piece_bytes (printed_label l) ≡ l
label-bytes [] = refl
label-bytes (b ∷ bs) = ap₂ (λ x xs. x ∷ xs) (printed-byte true b) (later-bytes bs)

labels-stand : (ls : List (List ℕ)) → are_bytes ls ≡ true → list_all is_piece (map printed_label ls) ≡ true
labels-stand [] h = refl
labels-stand (l ∷ ls) h =
    let parts = and_parts (is_bytes l) (are_bytes ls) h in
    and_from _ _ (label-stands l parts.0) (labels-stand ls parts.1)

labels-bytes : (ls : List (List ℕ)) → map piece_bytes (map printed_label ls) ≡ ls
labels-bytes [] = refl
labels-bytes (l ∷ ls) = ap₂ (λ x xs. x ∷ xs) (label-bytes l) (labels-bytes ls)

labels-texts : (ls : List (List ℕ)) → map (λ l. piece_text (printed_label l)) ls ≡ map piece_text (map printed_label ls)
labels-texts [] = refl
labels-texts (l ∷ ls) = ap (λ xs. piece_text (printed_label l) ∷ xs) (labels-texts ls)

ends_full : (ls : List (List ℕ)) → list_any is_empty_label ls ≡ false → ends_empty ls ≡ false
ends_full [] h = refl
ends_full ([] ∷ []) h = cc
ends_full ((b ∷ bs) ∷ []) h = refl
ends_full (l ∷ k ∷ ls) h = ends_full (k ∷ ls) (or_parts (is_empty_label l) (list_any is_empty_label (k ∷ ls)) h).1

-- without the mark the pieces are the labels
unmarked : (ls : List (List ℕ)) → list_any is_empty_label ls ≡ false → pieces_name ls ≡ record { labels = ls; fqdn = false }
unmarked ls h = ap (λ e. if e then marked_name (take (length ls - 1) ls) else record { labels = ls; fqdn = false }) (ends_full ls h)

front-push : (ls : List (List ℕ)) → take (length (ls ++ [] ∷ []) - 1) (ls ++ [] ∷ []) ≡ ls
front-push ls =
    let count : length (ls ++ [] ∷ []) - 1 ≡ length ls = omega (arith, length-append ls ([] ∷ [])) in
    ap (λ n. take n (ls ++ [] ∷ [])) count ∙ take-append_seam ls ([] ∷ [])

-- with it an empty piece follows
marked : (b : ℕ) (bs : List ℕ) (ls : List (List ℕ)) → pieces_name (((b ∷ bs) ∷ ls) ++ [] ∷ []) ≡ record { labels = (b ∷ bs) ∷ ls; fqdn = true }
marked b bs ls =
    let all = ((b ∷ bs) ∷ ls) ++ [] ∷ [] in
    ap (λ e. if e then marked_name (take (length all - 1) all) else record { labels = all; fqdn = false }) (ends_empty-last ((b ∷ bs) ∷ ls) [])
    ∙ ap marked_name (front-push ((b ∷ bs) ∷ ls))

spelled : (ls : List (List ℕ)) (mark : Bool) → label_fault ls ≡ None → are_bytes ls ≡ true → Spells (name_text (record { labels = ls; fqdn = mark })) (record { labels = ls; fqdn = mark })
spelled [] false h k = record { pieces = [] ∷ []; whole = record { some = omega arith; spelled = refl; stand = refl }; named = refl; valid = h }
spelled [] true h k = record { pieces = [] ∷ [] ∷ []; whole = record { some = omega arith; spelled = refl; stand = refl }; named = refl; valid = h }
spelled ([] ∷ ls) mark h k = cc
spelled ((b ∷ bs) ∷ ls) false h k =
    let all = (b ∷ bs) ∷ ls in
    let full = no_fault (list_any is_empty_label all) (list_any is_long_label all) (nat_lt 255 (wire_len all)) h in
    record {
      pieces = map printed_label all;
      whole = record { some = omega arith; spelled = ap (λ xs. join_with_byte 46 xs ++ []) (labels-texts all); stand = labels-stand all k };
      named = ap pieces_name (labels-bytes all) ∙ unmarked all full.0;
      valid = h;
    }
spelled ((b ∷ bs) ∷ ls) true h k =
    let all = (b ∷ bs) ∷ ls in
    record {
      pieces = map printed_label all ++ [] ∷ [];
      whole = record {
        some = omega arith;
        spelled = ap (λ xs. join_with_byte 46 xs ++ 46 ∷ []) (labels-texts all) ∙ sym (join-push (map piece_text (map printed_label all)) [] (omega arith))
            ∙ ap (join_with_byte 46) (sym (map-append piece_text (map printed_label all) ([] ∷ []))) ∙ sym (append-nil _);
        stand = list_all-append is_piece (map printed_label all) ([] ∷ []) ∙ and_from _ _ (labels-stand all k) refl;
      };
      named = ap pieces_name (map-append piece_bytes (map printed_label all) ([] ∷ []) ∙ ap (λ xs. xs ++ [] ∷ []) (labels-bytes all)) ∙ marked b bs ls;
      valid = h;
    }

pub printed_spells : (n : NameValue) → label_fault n.labels ≡ None → are_bytes n.labels ≡ true → Spells (name_text n) n
printed_spells n h k = spelled n.labels n.fqdn h k
