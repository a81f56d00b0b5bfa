-- The labels of joined and of shortened names.
use Rattle.std.proofs.Common.{◌≡◌, ℕ, ◌+◌, ◌-◌, ◌≤◌, Bool, true, false, List, ◌++◌, length, drop, take, nat_lt, None, Some, if◌then◌else◌, sym, refl, ap, ap₂, ◌∙◌, arith}
use Rattle.std.proofs.lemmas.Bool.{ltb-false, le-ltb, and_from, and_parts, or_parts, or_from}
use Rattle.std.proofs.lemmas.List.{map-append, take-append-drop, take_rest, drop-map, length-map}
use Rattle.std.proofs.lemmas.List.Folds.{list_all-append, list_any-append}
use Rattle.std.proofs.lemmas.List.Sums.{sum_by-append, sum_by-take-drop}
use Rattle.std.specs.List.{list_any, AllZip}
use Rattle.std.specs.Global.{Vec}
use Rattle.hickory_proto_names.specs.declared.name_error.NameError.TheVariants.{EmptyLabel, LabelTooLong, NameTooLong}
use Rattle.hickory_proto_names.specs.Name.{NameValue, label_bytes, label_fault, wire_len, trimmed_name, is_empty_label, is_long_label, is_bytes, are_bytes}
use Rattle.hickory_proto_names.proofs.Labels.{label_bytes-clones, no_fault}

-- vectors that gained clones of others have their labels too
pub label_bytes-appended : (old new more ys : List (Vec ℕ)) → new ≡ old ++ ys → AllZip (λ v w. AllZip (λ x y. y ≡ x) v.items w.items × (w.len ≡ v.len)) more ys → label_bytes new ≡ label_bytes old ++ label_bytes more
label_bytes-appended old new more ys e clones =
    ap label_bytes e ∙ map-append (λ v. v.items) old ys ∙ ap (λ l. label_bytes old ++ l) (label_bytes-clones more ys clones)

no_fault_from : (a b c : Bool) → a ≡ false → b ≡ false → c ≡ false → (if a then Some EmptyLabel else (if b then Some LabelTooLong else (if c then Some NameTooLong else None))) ≡ None
no_fault_from a b c ha hb hc = rw (ha, hb, hc) refl

valid_parts : (ls : List (List ℕ)) → label_fault ls ≡ None → (list_any is_empty_label ls ≡ false) × (list_any is_long_label ls ≡ false) × (nat_lt 255 (wire_len ls) ≡ false)
valid_parts ls h = no_fault (list_any is_empty_label ls) (list_any is_long_label ls) (nat_lt 255 (wire_len ls)) h

pub wire_len-append : (ls ms : List (List ℕ)) → wire_len (ls ++ ms) + 1 ≡ wire_len ls + wire_len ms
wire_len-append ls ms = omega (arith, sum_by-append (λ l. length l + 1) ls ms)

-- what a name's labels take
pub wire_len-valid : (ls : List (List ℕ)) → label_fault ls ≡ None → wire_len ls ≤ 255
wire_len-valid ls h = ltb-false 255 (wire_len ls) (valid_parts ls h).2

pub append-valid : (ls ms : List (List ℕ)) → label_fault ls ≡ None → label_fault ms ≡ None → wire_len (ls ++ ms) ≤ 255 → label_fault (ls ++ ms) ≡ None
append-valid ls ms h k short =
    let a = valid_parts ls h in
    let b = valid_parts ms k in
    no_fault_from _ _ _ (list_any-append is_empty_label ls ms ∙ or_from _ _ a.0 b.0) (list_any-append is_long_label ls ms ∙ or_from _ _ a.1 b.1) (le-ltb 255 _ short)

pub append-bytes : (ls ms : List (List ℕ)) → are_bytes ls ≡ true → are_bytes ms ≡ true → are_bytes (ls ++ ms) ≡ true
append-bytes ls ms h k = list_all-append is_bytes ls ms ∙ and_from _ _ h k

none-drop : (p : List ℕ → Bool) (n : ℕ) (ls : List (List ℕ)) → list_any p ls ≡ false → list_any p (drop n ls) ≡ false
none-drop p n ls h = (or_parts _ _ (sym (list_any-append p (take n ls) (drop n ls)) ∙ ap (list_any p) (take-append-drop n ls) ∙ h)).1

pub drop-valid : (n : ℕ) (ls : List (List ℕ)) → label_fault ls ≡ None → label_fault (drop n ls) ≡ None
drop-valid n ls h =
    let a = valid_parts ls h in
    no_fault_from _ _ _ (none-drop is_empty_label n ls a.0) (none-drop is_long_label n ls a.1)
    (le-ltb 255 _ (omega (arith, sum_by-take-drop (λ l. length l + 1) ls n, ltb-false 255 (wire_len ls) a.2)))

pub drop-bytes : (n : ℕ) (ls : List (List ℕ)) → are_bytes ls ≡ true → are_bytes (drop n ls) ≡ true
drop-bytes n ls h = (and_parts _ _ (sym (list_all-append is_bytes (take n ls) (drop n ls)) ∙ ap are_bytes (take-append-drop n ls) ∙ h)).1

-- the last n of these vectors, as labels
pub last-labels : (vs ws : List (Vec ℕ)) (k n : ℕ) → ws ≡ vs → k ≡ length vs - n → label_bytes (take (length ws - k) (drop k ws)) ≡ drop (length (label_bytes vs) - n) (label_bytes vs)
last-labels vs ws k n e h =
    ap label_bytes (take_rest ws k) ∙ sym (drop-map (λ v. v.items) k ws)
    ∙ ap₂ (λ m l. drop m (label_bytes l)) (h ∙ ap (λ m. m - n) (sym (length-map vs (λ v. v.items)))) e

-- a name that has as many labels
pub trimmed-enough : (n : ℕ) (name : NameValue) → n ≤ length name.labels → record { labels = drop (length name.labels - n) name.labels; fqdn = true } ≡ trimmed_name n name
trimmed-enough n name h = sym (ap (λ fewer. if fewer then name else record { labels = drop (length name.labels - n) name.labels; fqdn = true }) (le-ltb (length name.labels) n h))
