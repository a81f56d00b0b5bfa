-- The labels that stand behind so many octets.
use Rattle.std.proofs.Common.{◌≡◌, ℕ, suc, ◌+◌, ◌-◌, ◌<◌, ◌≤◌, Bool, true, false, cond, List, [], ◌∷◌, length, drop, get_or, refl, sym, ◌∙◌, ap, arith, drop-cons, add-one}
use Rattle.std.specs.Prelude.{◌==◌}
use Rattle.std.proofs.lemmas.List.{drop-map}
use Rattle.std.specs.Cmp.{unsigned_Decides}
use Rattle.std.specs.Global.{Vec}
use Rattle.hickory_proto_core.specs.Name.{label_bytes}
use Rattle.local_answers.specs.Rules.{labels_from}

pub not_zero : (n : ℕ) → (n ≡ 0 → ⊥) → (n == 0) ≡ false
not_zero n h = by (n == 0) refl
  where
    by : (b : Bool) → (n == 0) ≡ b → (n == 0) ≡ false
    by true is = absurd (h ((unsigned_Decides n 0).0 is))
    by false is = is

labels_from-zero : (ls : List (List ℕ)) → labels_from 0 ls ≡ ls
labels_from-zero [] = refl
labels_from-zero (l ∷ ls) = refl

-- one more label is passed
labels_from-one : (left : ℕ) (l : List ℕ) (ls : List (List ℕ)) → (left == 0) ≡ false
    → labels_from left (l ∷ ls) ≡ labels_from (left - (length l + 1)) ls
labels_from-one left l ls some =
    ap (λ (b : Bool). cond b (l ∷ ls) (labels_from (left - (length l + 1)) ls)) some

pub passed : (place left i : ℕ) (vs : List (Vec ℕ)) (v : Vec ℕ) → (left == 0) ≡ false → i < length vs
    → v ≡ get_or vs i v
    → labels_from place (label_bytes vs) ≡ labels_from left (drop i (label_bytes vs))
    → labels_from place (label_bytes vs)
    ≡ labels_from (left - (length v.items + 1)) (drop (i + 1) (label_bytes vs))
passed place left i vs v some within is same =
    same ∙ ap (labels_from left) split ∙ labels_from-one left v.items (drop (i + 1) (label_bytes vs)) some
  where
    split : drop i (label_bytes vs) ≡ v.items ∷ drop (i + 1) (label_bytes vs)
    split =
        drop-map (λ w. w.items) i vs
        ∙ ap label_bytes (drop-cons vs i v within)
        ∙ ap (λ (w : Vec ℕ). w.items ∷ label_bytes (drop (suc i) vs)) (sym is)
        ∙ ap (λ (n : ℕ). v.items ∷ label_bytes (drop n vs)) (sym (add-one i))
        ∙ ap (λ (ls : List (List ℕ)). v.items ∷ ls) (sym (drop-map (λ w. w.items) (i + 1) vs))

-- so many octets are passed
pub reached : (place i : ℕ) (vs : List (Vec ℕ)) → i ≤ length vs
    → labels_from place (label_bytes vs) ≡ labels_from 0 (drop i (label_bytes vs))
    → drop (length vs - (length vs - i)) (label_bytes vs) ≡ labels_from place (label_bytes vs)
reached place i vs within same =
    let at : length vs - (length vs - i) ≡ i = omega arith in
    ap (λ (n : ℕ). drop n (label_bytes vs)) at ∙ sym (same ∙ labels_from-zero (drop i (label_bytes vs)))
