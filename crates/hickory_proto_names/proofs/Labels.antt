-- Lists of labels as vectors and as lists of bytes.
use Rattle.std.proofs.Common.{◌≡◌, ℕ, suc, Fits, w8, ◌+◌, ◌*◌, ◌<◌, ◌≤◌, Bool, true, false, ◌&&◌, ◌||◌, List, [], ◌∷◌, ◌++◌, map, reverse, length, get_or, drop, sum_by, nat_lt, nat_eq, None, Some, if◌then◌else◌, sym, refl, ap, ap₂, ◌∙◌, Ordering, Equal, nat_cmp, arith, drop-cons, add-one, min, ◌-◌, Less, Greater, ⊎_elim}
use Rattle.std.proofs.lemmas.Bool.{ltb-false, eqb-false, or_parts, cases_order, and_from, lt-ltb}
use Rattle.std.proofs.lemmas.Bool.Decides.{nat_tests}
use Rattle.std.proofs.lemmas.List.{reverse-append, map-append, drop_all, drop-map, length-map, length-reverse, get_or-reverse}
use Rattle.std.proofs.lemmas.List.Sums.{sum_by-cons}
use Rattle.std.specs.List.{ends_with}
use Rattle.std.specs.List.{list_any, AllZip}
use Rattle.std.specs.Cmp.Lexicographic.{pointwise, slice_cmp}
use Rattle.std.specs.Ordering.{ordering_then}
use Rattle.std.specs.Global.{Vec}
use Rattle.std.proofs.lemmas.List.Elements.{same_from_all_zip}
use Rattle.hickory_proto_names.specs.declared.name_error.NameError.TheVariants.{EmptyLabel, LabelTooLong, NameTooLong}
use Rattle.hickory_proto_names.specs.Name.{label_bytes, label_fault, is_bytes, wire_len, is_empty_label, is_long_label, lower_label, labels_eq, labels_cmp, lower_labels}

pub list_any-map : {X Y : Type 0} (p : Y → Bool) (q : X → Bool) (f : X → Y) → ((x : X) → q x ≡ p (f x)) → (xs : List X) → list_any q xs ≡ list_any p (map f xs)
list_any-map p q f same [] = refl
list_any-map p q f same (x ∷ xs) = ap₂ (λ a b. a || b) (same x) (list_any-map p q f same xs)

pub pointwise-map : {A B X Y : Type 0} (E : X → Y → Bool) (f : A → X) (g : B → Y) (xs : List A) (ys : List B) → pointwise E (map f xs) (map g ys) ≡ pointwise (λ x y. E (f x) (g y)) xs ys
pointwise-map E f g [] [] = refl
pointwise-map E f g [] (y ∷ ys) = refl
pointwise-map E f g (x ∷ xs) [] = refl
pointwise-map E f g (x ∷ xs) (y ∷ ys) = ap (λ b. E (f x) (g y) && b) (pointwise-map E f g xs ys)

-- a comparison from place i on begins with the items there
pub pointwise-drop : {A B : Type 0} (E : A → B → Bool) (xs : List A) (ys : List B) (i : ℕ) (d : A) (e : B) → i < length xs → i < length ys → pointwise E (drop i xs) (drop i ys) ≡ (E (get_or xs i d) (get_or ys i e) && pointwise E (drop (i + 1) xs) (drop (i + 1) ys))
pointwise-drop E xs ys i d e h k = rw (add-one, drop-cons xs i d h, drop-cons ys i e k) refl

pub slice_cmp-drop : {A : Type 0} (R : A → A → Ordering) (xs ys : List A) (i : ℕ) (d e : A) → i < length xs → i < length ys → slice_cmp R (drop i xs) (drop i ys) ≡ ordering_then (R (get_or xs i d) (get_or ys i e)) (slice_cmp R (drop (i + 1) xs) (drop (i + 1) ys))
slice_cmp-drop R xs ys i d e h k = rw (add-one, drop-cons xs i d h, drop-cons ys i e k) refl

-- the vectors are clones, so their bytes are the same
pub label_bytes-clones : (vs ws : List (Vec ℕ)) → AllZip (λ v w. AllZip (λ x y. y ≡ x) v.items w.items × (w.len ≡ v.len)) vs ws → label_bytes ws ≡ label_bytes vs
label_bytes-clones [] [] h = refl
label_bytes-clones [] (w ∷ ws) h = absurd h
label_bytes-clones (v ∷ vs) [] h = absurd h
label_bytes-clones (v ∷ vs) (w ∷ ws) h = ap₂ (λ x y. x ∷ y) (same_from_all_zip _ v.items w.items h.0.0 (λ x y e. e)) (label_bytes-clones vs ws h.1)

-- a vector counts its items
pub length-items : (v : Vec ℕ) → length v.items ≡ v.len
length-items v = sym v.ok.0

-- whether two vectors are equal labels, and how they are ordered as labels
abbrev pub same_label : Vec ℕ → Vec ℕ → Bool
same_label v w = pointwise nat_eq (lower_label v.items) (lower_label w.items)

abbrev pub label_order : Vec ℕ → Vec ℕ → Ordering
label_order v w = slice_cmp nat_cmp (lower_label v.items) (lower_label w.items)

-- the labels of vectors, compared as labels
pub labels_eq-bytes : (vs ws : List (Vec ℕ)) → labels_eq (label_bytes vs) (label_bytes ws) ≡ pointwise same_label vs ws
labels_eq-bytes vs ws =
    pointwise-map (pointwise nat_eq) lower_label lower_label (label_bytes vs) (label_bytes ws)
    ∙ pointwise-map (λ x y. pointwise nat_eq (lower_label x) (lower_label y)) (λ v. v.items) (λ v. v.items) vs ws

-- a pair of labels that differ, found after equal ones
pub labels_differ : (vs ws : List (Vec ℕ)) (i : ℕ) (v w : Vec ℕ) → (length vs ≡ length ws) × (pointwise same_label (drop i vs) (drop i ws) ≡ pointwise same_label vs ws) → i < length vs → v ≡ get_or vs i v → w ≡ get_or ws i w → false ≡ same_label v w → false ≡ labels_eq (label_bytes vs) (label_bytes ws)
labels_differ vs ws i v w so_far h p q e =
    let here : same_label (get_or vs i v) (get_or ws i w) ≡ false = ap₂ same_label (sym p) (sym q) ∙ sym e in
    sym (labels_eq-bytes vs ws ∙ sym so_far.1 ∙ pointwise-drop same_label vs ws i v w h (omega arith) ∙ ap (λ b. b && pointwise same_label (drop (i + 1) vs) (drop (i + 1) ws)) here)

-- all pairs were equal
pub labels_same : (vs ws : List (Vec ℕ)) (i : ℕ) → (length vs ≡ length ws) × (pointwise same_label (drop i vs) (drop i ws) ≡ pointwise same_label vs ws) → length vs ≤ i → true ≡ labels_eq (label_bytes vs) (label_bytes ws)
labels_same vs ws i so_far h =
    sym (labels_eq-bytes vs ws ∙ sym so_far.1 ∙ ap₂ (pointwise same_label) (drop_all i vs h) (drop_all i ws (omega arith)))

-- ---- the order

slice_cmp-map : {A X : Type 0} (R : X → X → Ordering) (f : A → X) (xs ys : List A) → slice_cmp R (map f xs) (map f ys) ≡ slice_cmp (λ x y. R (f x) (f y)) xs ys
slice_cmp-map R f [] [] = refl
slice_cmp-map R f [] (y ∷ ys) = refl
slice_cmp-map R f (x ∷ xs) [] = refl
slice_cmp-map R f (x ∷ xs) (y ∷ ys) = ap (ordering_then (R (f x) (f y))) (slice_cmp-map R f xs ys)

reverse-map : {A B : Type 0} (f : A → B) (xs : List A) → reverse (map f xs) ≡ map f (reverse xs)
reverse-map f [] = refl
reverse-map f (x ∷ xs) =
    reverse-append (f x ∷ []) (map f xs) ∙ ap (λ l. l ++ f x ∷ []) (reverse-map f xs)
    ∙ sym (map-append f (reverse xs) (x ∷ [])) ∙ ap (map f) (sym (reverse-append (x ∷ []) xs))

pub labels_cmp-bytes : (vs ws : List (Vec ℕ)) → labels_cmp (label_bytes vs) (label_bytes ws) ≡ slice_cmp label_order (reverse vs) (reverse ws)
labels_cmp-bytes vs ws =
    ap₂ (slice_cmp (slice_cmp nat_cmp)) (flipped vs) (flipped ws)
    ∙ slice_cmp-map (slice_cmp nat_cmp) (λ v. lower_label v.items) (reverse vs) (reverse ws)
  where
    fused : (us : List (Vec ℕ)) → lower_labels (label_bytes us) ≡ map (λ v. lower_label v.items) us
    fused [] = refl
    fused (u ∷ us) = ap (λ l. lower_label u.items ∷ l) (fused us)

    flipped : (us : List (Vec ℕ)) → reverse (lower_labels (label_bytes us)) ≡ map (λ v. lower_label v.items) (reverse us)
    flipped us = ap reverse (fused us) ∙ reverse-map (λ v. lower_label v.items) us

-- the next pair from the end
pub labels_cmp_more : (vs ws : List (Vec ℕ)) (i : ℕ) (v w : Vec ℕ) → slice_cmp label_order (drop i (reverse vs)) (drop i (reverse ws)) ≡ slice_cmp label_order (reverse vs) (reverse ws) → i < length vs → i < length ws → v ≡ get_or vs (length vs - 1 - i) v → w ≡ get_or ws (length ws - 1 - i) w
    → labels_cmp (label_bytes vs) (label_bytes ws) ≡ ordering_then (label_order v w) (slice_cmp label_order (drop (i + 1) (reverse vs)) (drop (i + 1) (reverse ws)))
labels_cmp_more vs ws i v w so_far h k p q =
    let here : label_order (get_or (reverse vs) i v) (get_or (reverse ws) i w) ≡ label_order v w = ap₂ label_order (get_or-reverse vs i v h ∙ sym p) (get_or-reverse ws i w k ∙ sym q) in
    let in_vs : i < length (reverse vs) = rw length-reverse h in
    let in_ws : i < length (reverse ws) = rw length-reverse k in
    labels_cmp-bytes vs ws ∙ sym so_far ∙ slice_cmp-drop label_order (reverse vs) (reverse ws) i v w in_vs in_ws
    ∙ ap (λ o. ordering_then o (slice_cmp label_order (drop (i + 1) (reverse vs)) (drop (i + 1) (reverse ws)))) here

-- once one list has run out, the lengths decide
slice_cmp_end : {A : Type 0} (R : A → A → Ordering) (xs ys : List A) (n : ℕ) → n ≡ min (length xs) (length ys) → slice_cmp R (drop n xs) (drop n ys) ≡ nat_cmp (length xs) (length ys)
slice_cmp_end {A = A} R xs ys n e =
    ⊎_elim (λ same. ap₂ (slice_cmp R) (drop_all n xs (omega arith)) (drop_all n ys (omega arith)) ∙ level (length xs) (length ys) same)
    (⊎_elim (λ less. ap (λ l. slice_cmp R l (drop n ys)) (drop_all n xs (omega arith)) ∙ less_at ys (omega arith) ∙ below (length xs) (length ys) less)
    (λ more. ap (slice_cmp R (drop n xs)) (drop_all n ys (omega arith)) ∙ more_at xs (omega arith) ∙ above (length xs) (length ys) more))
    (cases_order (length xs) (length ys))
  where
    level : (a b : ℕ) → a ≡ b → Equal ≡ nat_cmp a b
    level a b h = grind (arith, nat_tests)

    below : (a b : ℕ) → a < b → Less ≡ nat_cmp a b
    below a b h = grind (arith, nat_tests)

    above : (a b : ℕ) → b < a → Greater ≡ nat_cmp a b
    above a b h = grind (arith, nat_tests)

    less_at : (zs : List A) → n < length zs → slice_cmp R [] (drop n zs) ≡ Less
    less_at [] h = absurd (omega arith)
    less_at (z ∷ zs) h = rw (drop-cons (z ∷ zs) n z h) refl

    more_at : (zs : List A) → n < length zs → slice_cmp R (drop n zs) [] ≡ Greater
    more_at [] h = absurd (omega arith)
    more_at (z ∷ zs) h = rw (drop-cons (z ∷ zs) n z h) refl

pub labels_cmp_end : (vs ws : List (Vec ℕ)) (i : ℕ) → slice_cmp label_order (drop i (reverse vs)) (drop i (reverse ws)) ≡ slice_cmp label_order (reverse vs) (reverse ws) → i ≡ min (length vs) (length ws) → nat_cmp (length vs) (length ws) ≡ labels_cmp (label_bytes vs) (label_bytes ws)
labels_cmp_end vs ws i so_far e =
    sym (labels_cmp-bytes vs ws ∙ sym so_far
    ∙ slice_cmp_end label_order (reverse vs) (reverse ws) i (e ∙ sym (ap₂ min (length-reverse vs) (length-reverse ws)))
    ∙ ap₂ nat_cmp (length-reverse vs) (length-reverse ws))

-- ---- zones, and how many labels a name has

pub zone_labels : (zs ns : List (Vec ℕ)) → labels_eq (label_bytes zs) (label_bytes (drop (length ns - length zs) ns)) ≡ ends_with (pointwise nat_eq) (lower_labels (label_bytes ns)) (lower_labels (label_bytes zs))
zone_labels zs ns =
    ap (pointwise (pointwise nat_eq) (lower_labels (label_bytes zs)))
    (ap lower_labels (sym (drop-map (λ v. v.items) k ns)) ∙ sym (drop-map lower_label k (label_bytes ns)) ∙ ap (λ n. drop n (lower_labels (label_bytes ns))) same)
  where
    k : ℕ
    k = length ns - length zs

    long : (vs : List (Vec ℕ)) → length (lower_labels (label_bytes vs)) ≡ length vs
    long vs = length-map (label_bytes vs) lower_label ∙ length-map vs (λ v. v.items)

    same : k ≡ length (lower_labels (label_bytes ns)) - length (lower_labels (label_bytes zs))
    same = sym (ap₂ (λ m n. m - n) (long ns) (long zs))

-- each label takes two bytes at least
two_each : (ls : List (List ℕ)) → list_any is_empty_label ls ≡ false → 2 * length ls ≤ sum_by (λ l. length l + 1) ls
two_each [] h = omega arith
two_each (l ∷ ls) h =
    let parts = or_parts (is_empty_label l) (list_any is_empty_label ls) h in
    let some = eqb-false (length l) 0 parts.0 in
    omega (arith, two_each ls parts.1, sum_by-cons (λ k. length k + 1) l ls)

pub no_fault : (a b c : Bool) → (if a then Some EmptyLabel else (if b then Some LabelTooLong else (if c then Some NameTooLong else None))) ≡ None → (a ≡ false) × (b ≡ false) × (c ≡ false)
no_fault true b c h = cc
no_fault false true c h = cc
no_fault false false true h = cc
no_fault false false false h = (refl, refl, refl)

pub label_count : (ls : List (List ℕ)) → label_fault ls ≡ None → length ls ≤ 127
label_count ls h =
    let none = no_fault (list_any is_empty_label ls) (list_any is_long_label ls) (nat_lt 255 (wire_len ls)) h in
    omega (arith, two_each ls none.0, ltb-false 255 (wire_len ls) none.2)

pub then_other : (o p : Ordering) → (o ≡ Equal → ⊥) → o ≡ ordering_then o p
then_other Less p h = refl
then_other Equal p h = absurd (h refl)
then_other Greater p h = refl

-- what the type of a slice of bytes says
pub is_bytes-from_type : (xs : List ℕ) → ((i : ℕ) → Fits w8 (get_or xs i 0)) → is_bytes xs ≡ true
is_bytes-from_type [] h = refl
is_bytes-from_type (x ∷ xs) h = and_from _ _ (lt-ltb x 256 (h 0).fits) (is_bytes-from_type xs (λ i. h (suc i)))
