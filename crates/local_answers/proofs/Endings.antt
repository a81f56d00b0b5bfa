-- Whether labels end with those of a zone.
use Rattle.std.proofs.Common.{◌≡◌, ℕ, ◌+◌, ◌-◌, ◌<◌, ◌≤◌, Bool, true, false, ◌&&◌, List, [], ◌∷◌, map, length, get_or, drop, nat_eq, sym, refl, ap, ap₂, ◌∙◌, arith, drop-cons, add-one, length-drop, Bor}
use Rattle.std.proofs.lemmas.List.{drop_all, drop-map, length-map}
use Rattle.std.specs.List.{ends_with}
use Rattle.std.specs.Cmp.Lexicographic.{pointwise}
use Rattle.std.specs.Global.{Vec}
use Rattle.hickory_proto_core.specs.Name.{label_bytes, lower_label, lower_labels}

-- a label of a zone and one of a name are equal
abbrev pub same_label : Bor (List ℕ) → Vec ℕ → Bool
same_label z v = pointwise nat_eq (lower_label z.now) (lower_label v.items)

abbrev pub zone_bytes : List (Bor (List ℕ)) → List (List ℕ)
zone_bytes zs = map (λ z. z.now) zs

pointwise-map : {A B X Y : Type 0} (E : X → Y → Bool) (f : A → X) (g : B → Y) (xs : List A) (ys : List B)
    → pointwise E (map f xs) (map g ys) ≡ pointwise (λ x y. E (f x) (g y)) xs ys
pointwise-map E f g [] [] = refl
pointwise-map E f g [] (y ∷ ys) = refl
pointwise-map E f g (x ∷ xs) [] = refl
pointwise-map E f g (x ∷ xs) (y ∷ ys) = ap (λ b. E (f x) (g y) && b) (pointwise-map E f g xs ys)

fused : (vs : List (Vec ℕ)) → lower_labels (label_bytes vs) ≡ map (λ v. lower_label v.items) vs
fused [] = refl
fused (v ∷ vs) = ap (λ l. lower_label v.items ∷ l) (fused vs)

fused_zone : (zs : List (Bor (List ℕ))) → lower_labels (zone_bytes zs) ≡ map (λ z. lower_label z.now) zs
fused_zone [] = refl
fused_zone (z ∷ zs) = ap (λ l. lower_label z.now ∷ l) (fused_zone zs)

-- the labels from a place on, compared with those of the zone
pub ends-from : (zs : List (Bor (List ℕ))) (vs : List (Vec ℕ)) (above : ℕ) → above ≡ length vs - length zs
    → pointwise same_label zs (drop above vs) ≡ ends_with (pointwise nat_eq) (lower_labels (label_bytes vs))
    (lower_labels (zone_bytes zs))
ends-from zs vs above h =
    sym (ap₂ (ends_with (pointwise nat_eq)) (fused vs) (fused_zone zs)
    ∙ ap (λ k. pointwise (pointwise nat_eq) (map (λ z. lower_label z.now) zs) (drop k (map
    (λ v. lower_label v.items) vs))) (ap₂ (λ m n. m - n) (length-map vs (λ v. lower_label v.items))
    (length-map zs (λ z. lower_label z.now)) ∙ sym h)
    ∙ ap (pointwise (pointwise nat_eq) (map (λ z. lower_label z.now) zs)) (drop-map (λ v. lower_label v.items) above vs)
    ∙ pointwise-map (pointwise nat_eq) (λ z. lower_label z.now) (λ v. lower_label v.items) zs (drop above vs))

-- a comparison from a place on begins with the labels there, which are equal or not
pub from_place : (zs : List (Bor (List ℕ))) (vs : List (Vec ℕ)) (i j : ℕ) (d : Bor (List ℕ)) (v : Vec ℕ)
    (bytes : List ℕ) (same : Bool) → same ≡ pointwise nat_eq (lower_label (get_or zs i d).now)
    (lower_label bytes) → bytes ≡ v.items → v ≡ get_or vs j v → i < length zs → j < length vs
    → pointwise same_label (drop i zs) (drop j vs) ≡ (same && pointwise same_label (drop (i + 1) zs) (drop (j + 1) vs))
from_place zs vs i j d v bytes same is at q h k =
    ap₂ (pointwise same_label) (drop-cons zs i d h) (drop-cons vs j v k)
    ∙ ap₂ (λ a w. same_label (get_or zs i d) w && a) (ap₂ (λ m n. pointwise same_label (drop m zs) (drop n vs))
    (sym (add-one i)) (sym (add-one j))) (sym q)
    ∙ ap (λ b. b && pointwise same_label (drop (i + 1) zs) (drop (j + 1) vs)) (sym (is
    ∙ ap (λ l. pointwise nat_eq (lower_label (get_or zs i d).now) (lower_label l)) at))

-- nothing is left of either
pub all_compared : (zs : List (Bor (List ℕ))) (vs : List (Vec ℕ)) (i j : ℕ) → length zs ≤ i → length vs ≤ j
    → pointwise same_label (drop i zs) (drop j vs) ≡ true
all_compared zs vs i j h k = ap₂ (pointwise same_label) (drop_all i zs h) (drop_all j vs k)

-- lists of different lengths are never equal
short : {A B : Type 0} (E : A → B → Bool) (xs : List A) (ys : List B) → length ys < length xs → pointwise E xs ys
    ≡ false
short E [] ys h = absurd (omega arith)
short E (x ∷ xs) [] h = refl
short E (x ∷ xs) (y ∷ ys) h = at (E x y) (short E xs ys (omega arith))
  where
    at : (a : Bool) {b : Bool} → b ≡ false → (a && b) ≡ false
    at true e = e
    at false e = refl

pub too_few : (zs : List (Bor (List ℕ))) (vs : List (Vec ℕ)) → length vs < length zs → false
    ≡ ends_with (pointwise nat_eq) (lower_labels (label_bytes vs)) (lower_labels (zone_bytes zs))
too_few zs vs h = sym (sym (ends-from zs vs _ refl)
    ∙ short same_label zs (drop (length vs - length zs) vs) (omega (arith, length-drop (length vs - length zs) vs)))
