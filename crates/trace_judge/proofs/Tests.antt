-- Tests over lists.
use Rattle.std.proofs.Common.{◌≡◌, ℕ, Bool, true, false, ◌&&◌, ◌||◌, cond, max, nat_le, List, [], ◌∷◌, ◌++◌, filter, refl, ap, sym, ◌∙◌, arith, inl, inr}
use Rattle.std.specs.List.{list_any}
use Rattle.std.proofs.lemmas.Bool.{or_cases, or_left, or_right, cases_Bool}
use Rattle.std.proofs.lemmas.Bool.Decides.{nat_tests}
use Rattle.std.proofs.lemmas.List.Folds.{list_any-append}

-- tests are the same where each follows from the other
pub same_tests : (a b : Bool) → (a ≡ true → b ≡ true) → (b ≡ true → a ≡ true) → a ≡ b
same_tests true b to back = sym (to refl)
same_tests false true to back = back refl
same_tests false false to back = refl

pub le_trans : (a b c : ℕ) → nat_le a b ≡ true → nat_le b c ≡ true → nat_le a c ≡ true
le_trans a b c p q = grind (arith, nat_tests)

pub le_max : (a b c : ℕ) → nat_le a (max b c) ≡ (nat_le a b || nat_le a c)
le_max a b c = grind (arith, nat_tests)

pub max_le : (a b c : ℕ) → nat_le (max a b) c ≡ (nat_le a c && nat_le b c)
max_le a b c = grind (arith, nat_tests)

-- one that passes, and where it stands
pub found_in : {X : Type 0} (p : X → Bool) (xs : List X) → list_any p xs ≡ true
    → (x : X) × (p x ≡ true) × ((q : X → Bool) → q x ≡ true → list_any q xs ≡ true)
found_in p [] h = absurd (let no : false ≡ true = h in cc)
found_in {X} p (x ∷ xs) h = elim (cases_Bool (p x)) [
  | inl e ↦ (x, e, λ q k. or_left (q x) (list_any q xs) k)
  | inr e ↦ (let rest : list_any p xs ≡ true = ap (λ b. b || list_any p xs) (sym e) ∙ h in
      let r = found_in p xs rest in (r.0, r.1, λ q k. or_right (q x) (list_any q xs) (r.2 q k)))
]

-- where each that passes one test passes the other
pub any_weaker : {X : Type 0} (p q : X → Bool) (xs : List X) → ((x : X) → p x ≡ true → q x ≡ true)
    → list_any p xs ≡ true → list_any q xs ≡ true
any_weaker p q xs f h = let r = found_in p xs h in r.2 q (f r.0 r.1)

pub any_same : {X : Type 0} (p q : X → Bool) (xs : List X) → ((x : X) → p x ≡ q x) → list_any p xs ≡ list_any q xs
any_same p q [] e = refl
any_same p q (x ∷ xs) e = ap (λ b. b || list_any p xs) (e x) ∙ ap (λ b. q x || b) (any_same p q xs e)

-- among those that pass a test
pub any-filter : {X : Type 0} (p q : X → Bool) (xs : List X) → list_any q (filter p xs) ≡ list_any (λ x. p x && q x) xs
any-filter p q [] = refl
any-filter p q (x ∷ xs) = elim (cases_Bool (p x)) [
  | inl e ↦ ap (list_any q) (ap (λ b. cond b (x ∷ filter p xs) (filter p xs)) e)
      ∙ ap (λ b. q x || b) (any-filter p q xs)
      ∙ ap (λ b. (b && q x) || list_any (λ y. p y && q y) xs) (sym e)
  | inr e ↦ ap (list_any q) (ap (λ b. cond b (x ∷ filter p xs) (filter p xs)) e)
      ∙ any-filter p q xs
      ∙ ap (λ b. (b && q x) || list_any (λ y. p y && q y) xs) (sym e)
]

-- two tests at once
pub any-or : {X : Type 0} (p q : X → Bool) (xs : List X) → list_any (λ x. p x || q x) xs ≡ (list_any p xs || list_any q xs)
any-or p q xs = same_tests (list_any (λ x. p x || q x) xs) (list_any p xs || list_any q xs)
    (λ h. let r = found_in (λ x. p x || q x) xs h in elim (or_cases (p r.0) (q r.0) r.1) [
      | inl a ↦ or_left (list_any p xs) (list_any q xs) (r.2 p a)
      | inr b ↦ or_right (list_any p xs) (list_any q xs) (r.2 q b)
    ])
    (λ h. elim (or_cases (list_any p xs) (list_any q xs) h) [
      | inl a ↦ any_weaker p (λ x. p x || q x) xs (λ x k. or_left (p x) (q x) k) a
      | inr b ↦ any_weaker q (λ x. p x || q x) xs (λ x k. or_right (p x) (q x) k) b
    ])

-- one more at the end
pub any-push : {X : Type 0} (p : X → Bool) (xs : List X) (y : X) → list_any p (xs ++ y ∷ []) ≡ (list_any p xs || p y)
any-push p xs y = list_any-append p xs (y ∷ []) ∙ ap (λ b. list_any p xs || b) (or_none (p y)) where
  or_none : (b : Bool) → (b || false) ≡ b
  or_none true = refl
  or_none false = refl
