-- Places can be put in an order by a number of each.
use Rattle.std.proofs.Common.{◌≡◌, ◌≤◌, ◌<◌, ◌+◌, suc, zero, ℕ, Bool, true, false, cond, not, ◌&&◌, leb, leb-true, leb-false, eqb, ltb, ltb-false, le-ltb, List, [], ◌∷◌, refl, ap, sym, subst, ◌∙◌, true≢false, arith}
use Rattle.std.specs.Prelude.{filter, slice_index_or, IsPermutation, IsSortedByKey}
use Rattle.std.specs.List.Sorted.{IsStableByKey, ties}
use Rattle.std.specs.declared.cmp.Ordering.TheVariants.{Less, Equal, Greater}
use Rattle.std.specs.Ordering.{nat_cmp, is_lt}
use Rattle.std.proofs.lemmas.List.Sorted.{IsPermutation-refl, IsPermutation-cons, IsPermutation-sym, IsPermutation-trans, IsPermutation-middle}

module _ (n : ℕ → ℕ) where
  abbrev put_in : ℕ → List ℕ → List ℕ
  put_in x [] = x ∷ []
  put_in x (y ∷ ys) = cond (leb (n x) (n y)) (x ∷ y ∷ ys) (y ∷ put_in x ys)

  abbrev pub ranked : List ℕ → List ℕ
  ranked [] = []
  ranked (x ∷ xs) = put_in x (ranked xs)

  -- ---- each is there as often

  put_in-same : (x : ℕ) (ys : List ℕ) → IsPermutation (x ∷ ys) (put_in x ys)
  put_in-same x [] = IsPermutation-refl (x ∷ [])
  put_in-same x (y ∷ ys) = by (leb (n x) (n y)) (put_in-same x ys)
    where
      by : (b : Bool) → IsPermutation (x ∷ ys) (put_in x ys)
          → IsPermutation (x ∷ y ∷ ys) (cond b (x ∷ y ∷ ys) (y ∷ put_in x ys))
      by true more = IsPermutation-refl (x ∷ y ∷ ys)
      by false more =
          IsPermutation-trans (x ∷ y ∷ ys) (y ∷ x ∷ ys) (y ∷ put_in x ys)
          (IsPermutation-sym (y ∷ x ∷ ys) (x ∷ y ∷ ys) (IsPermutation-middle (y ∷ []) x ys))
          (IsPermutation-cons y (x ∷ ys) (put_in x ys) more)

  pub ranked-same : (xs : List ℕ) → IsPermutation xs (ranked xs)
  ranked-same [] = IsPermutation-refl []
  ranked-same (x ∷ xs) =
      IsPermutation-trans (x ∷ xs) (x ∷ ranked xs) (put_in x (ranked xs)) (IsPermutation-cons x xs (ranked xs) (ranked-same xs))
      (put_in-same x (ranked xs))

  -- ---- they rise

  abbrev Above : ℕ → List ℕ → Type 0
  Above x [] = Unit {0}
  Above x (y ∷ ys) = n x ≤ n y

  abbrev Rising : List ℕ → Type 0
  Rising [] = Unit {0}
  Rising (x ∷ xs) = Above x xs × Rising xs

  put_in-above : (x y : ℕ) (ys : List ℕ) → n y ≤ n x → Above y ys → Above y (put_in x ys)
  put_in-above x y [] le up = le
  put_in-above x y (z ∷ zs) le up = by (leb (n x) (n z))
    where
      by : (b : Bool) → Above y (cond b (x ∷ z ∷ zs) (z ∷ put_in x zs))
      by true = le
      by false = up

  put_in-rising : (x : ℕ) (ys : List ℕ) → Rising ys → Rising (put_in x ys)
  put_in-rising x [] up = (tt, tt)
  put_in-rising x (y ∷ ys) up = by (leb (n x) (n y)) refl (put_in-rising x ys up.1)
    where
      by : (b : Bool) → leb (n x) (n y) ≡ b → Rising (put_in x ys) → Rising (cond b (x ∷ y ∷ ys) (y ∷ put_in x ys))
      by true is more = (leb-true (n x) (n y) is, up)
      by false is more =
          (put_in-above x y ys (let less = leb-false (n x) (n y) is in omega (arith, less)) up.0, more)

  ranked-rising : (xs : List ℕ) → Rising (ranked xs)
  ranked-rising [] = tt
  ranked-rising (x ∷ xs) = put_in-rising x (ranked xs) (ranked-rising xs)

  not-before : (x y : ℕ) → n x ≤ n y → is_lt (nat_cmp (n y) (n x)) ≡ false
  not-before x y le =
      by (ltb (n y) (n x)) (le-ltb (n y) (n x) le)
    where
      equal : (b : Bool) → is_lt (cond b Equal Greater) ≡ false
      equal true = refl
      equal false = refl

      by : (b : Bool) → b ≡ false → is_lt (cond b Less (cond (eqb (n y) (n x)) Equal Greater)) ≡ false
      by true h = absurd (true≢false h)
      by false h = equal (eqb (n y) (n x))

  rising-sorted : (xs : List ℕ) → Rising xs → IsSortedByKey n nat_cmp xs
  rising-sorted [] up k d low less = absurd (omega (arith, less))
  rising-sorted (x ∷ []) up k d low less = absurd (omega (arith, less))
  rising-sorted (x ∷ y ∷ ys) up zero d low less = not-before x y up.0
  rising-sorted (x ∷ y ∷ ys) up (suc k) d low less =
      let next : suc (k + 1) ≡ suc k + 1 = omega arith in
      subst (λ (i : ℕ). is_lt (nat_cmp (n (slice_index_or (x ∷ y ∷ ys) i d)) (n (slice_index_or (x ∷ y ∷ ys) (suc k) d))) ≡ false)
      next (rising-sorted (y ∷ ys) up.1 k d (omega arith) (omega (arith, less)))

  pub ranked-sorted : (xs : List ℕ) → IsSortedByKey n nat_cmp (ranked xs)
  ranked-sorted xs = rising-sorted (ranked xs) (ranked-rising xs)

  -- ---- equal ones stand as before

  abbrev tied : ℕ → ℕ → Bool
  tied z x = ties (λ a b. is_lt (nat_cmp (n a) (n b))) z x

  before-is : (x y : ℕ) → is_lt (nat_cmp (n x) (n y)) ≡ ltb (n x) (n y)
  before-is x y = by (ltb (n x) (n y)) (eqb (n x) (n y))
    where
      by : (b c : Bool) → is_lt (cond b Less (cond c Equal Greater)) ≡ b
      by true c = refl
      by false true = refl
      by false false = refl

  tied-is : (z x : ℕ) → tied z x ≡ (not (ltb (n z) (n x)) && not (ltb (n x) (n z)))
  tied-is z x =
      ap (λ (b : Bool). not b && not (is_lt (nat_cmp (n x) (n z)))) (before-is z x)
      ∙ ap (λ (b : Bool). not (ltb (n z) (n x)) && not b) (before-is x z)

  -- of two that are not equal one is not tied
  not-both : (z x y : ℕ) → n y < n x → tied z x ≡ true → tied z y ≡ true → ⊥
  not-both z x y less one two =
      by (ltb (n z) (n x)) (ltb (n y) (n z)) refl refl (sym (tied-is z x) ∙ one) (sym (tied-is z y) ∙ two)
    where
      by : (a b : Bool) → ltb (n z) (n x) ≡ a → ltb (n y) (n z) ≡ b → (not a && not (ltb (n x) (n z))) ≡ true
          → (not (ltb (n z) (n y)) && not b) ≡ true → ⊥
      by true b at_a at_b h k = true≢false (sym h)
      by false true at_a at_b h k = and-right (not (ltb (n z) (n y))) k
        where
          and-right : (c : Bool) → (c && false) ≡ true → ⊥
          and-right true g = true≢false (sym g)
          and-right false g = true≢false (sym g)
      by false false at_a at_b h k =
          let one_le = ltb-false (n z) (n x) at_a in
          let two_le = ltb-false (n y) (n z) at_b in
          omega (arith, less, one_le, two_le)

  put_in-tied : (z x : ℕ) (ys : List ℕ) → filter (tied z) (put_in x ys) ≡ filter (tied z) (x ∷ ys)
  put_in-tied z x [] = refl
  put_in-tied z x (y ∷ ys) = by (leb (n x) (n y)) refl (put_in-tied z x ys)
    where
      swapped : n y < n x → (a b : Bool) → tied z x ≡ a → tied z y ≡ b
          → cond b (y ∷ cond a (x ∷ filter (tied z) ys) (filter (tied z) ys)) (cond a (x ∷ filter (tied z) ys) (filter (tied z) ys))
          ≡ cond a (x ∷ cond b (y ∷ filter (tied z) ys) (filter (tied z) ys)) (cond b (y ∷ filter (tied z) ys) (filter (tied z) ys))
      swapped less true true one two = absurd (not-both z x y less one two)
      swapped less true false one two = refl
      swapped less false true one two = refl
      swapped less false false one two = refl

      by : (b : Bool) → leb (n x) (n y) ≡ b → filter (tied z) (put_in x ys) ≡ filter (tied z) (x ∷ ys)
          → filter (tied z) (cond b (x ∷ y ∷ ys) (y ∷ put_in x ys)) ≡ filter (tied z) (x ∷ y ∷ ys)
      by true is more = refl
      by false is more =
          ap (λ (rest : List ℕ). cond (tied z y) (y ∷ rest) rest) more
          ∙ swapped (leb-false (n x) (n y) is) (tied z x) (tied z y) refl refl

  pub ranked-stable : (xs : List ℕ) → IsStableByKey n nat_cmp xs (ranked xs)
  ranked-stable [] z = refl
  ranked-stable (x ∷ xs) z =
      put_in-tied z x (ranked xs)
      ∙ ap (λ (rest : List ℕ). cond (tied z x) (x ∷ rest) rest) (ranked-stable xs z)
