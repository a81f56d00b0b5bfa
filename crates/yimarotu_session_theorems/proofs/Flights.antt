-- Calls in flight, each under the number of its look-up.
use Rattle.std.proofs.Common.{◌≡◌, ◌∙◌, ℕ, Bool, true, false, cond, List, [], ◌∷◌, ◌++◌, map, nat_eq, refl, ap, arith}
use Rattle.std.specs.Prelude.{Option, None, Some}
use Rattle.std.specs.Map.{lookup, remove_entry, set_value}
use Rattle.std.proofs.lemmas.Bool.Decides.{nat_tests}

module _ {A : Type 0} where
  abbrev pub at : ℕ → List (ℕ × A) → Option A
  at n values = lookup (nat_eq n) values

  -- no number stands there twice
  abbrev pub EachOnce : List (ℕ × A) → Type 0
  EachOnce [] = Unit {0}
  EachOnce (f ∷ fs) = (at f.0 fs ≡ None) × EachOnce fs

  abbrev pub put_behind : ℕ → A → List (ℕ × A) → List (ℕ × A)
  put_behind m c fs = fs ++ (m, c) ∷ []

  abbrev pub without : ℕ → List (ℕ × A) → List (ℕ × A)
  without m fs = remove_entry (nat_eq m) fs

  abbrev pub with : ℕ → A → List (ℕ × A) → List (ℕ × A)
  with m d fs = set_value (nat_eq m) fs d

  -- ---- one more, whose number is not there

  push-head : (m n k : ℕ) (c d : A) (x y z : Option A) → cond (nat_eq m k) (Some d) z ≡ None
      → x ≡ cond (nat_eq m n) (Some c) y
      → cond (nat_eq n k) (Some d) x ≡ cond (nat_eq m n) (Some c) (cond (nat_eq n k) (Some d) y)
  push-head m n k c d x y z none tail = grind (arith, nat_tests)

  push-one : (m n : ℕ) (c : A) → cond (nat_eq n m) (Some c) None ≡ cond (nat_eq m n) (Some c) None
  push-one m n c = grind (arith, nat_tests)

  none-tail : (m k : ℕ) (d : A) (z : Option A) → cond (nat_eq m k) (Some d) z ≡ None → z ≡ None
  none-tail m k d z none = grind (arith, nat_tests)

  none-apart : (m k : ℕ) (d : A) (z : Option A) → cond (nat_eq m k) (Some d) z ≡ None → nat_eq m k ≡ false
  none-apart m k d z none = grind (arith, nat_tests)

  pub at-pushed : (m n : ℕ) (c : A) (fs : List (ℕ × A)) → at m fs ≡ None
      → at n (put_behind m c fs) ≡ cond (nat_eq m n) (Some c) (at n fs)
  at-pushed m n c [] none = push-one m n c
  at-pushed m n c ((k, d) ∷ fs) none =
      push-head m n k c d (at n (put_behind m c fs)) (at n fs) (at m fs) none
      (at-pushed m n c fs (none-tail m k d (at m fs) none))

  none-pushed : (m k : ℕ) (c d : A) (x y z : Option A) → cond (nat_eq m k) (Some d) z ≡ None
      → x ≡ cond (nat_eq m k) (Some c) y → y ≡ None → x ≡ None
  none-pushed m k c d x y z none is once = grind (arith, nat_tests)

  pub once-pushed : (m : ℕ) (c : A) (fs : List (ℕ × A)) → EachOnce fs → at m fs ≡ None → EachOnce (put_behind m c fs)
  once-pushed m c [] once none = (refl, tt)
  once-pushed m c ((k, d) ∷ fs) once none =
      let left = none-tail m k d (at m fs) none in (
        none-pushed m k c d (at k (put_behind m c fs)) (at k fs) (at m fs) none (at-pushed m k c fs left) once.0,
        once-pushed m c fs once.1 left,
      )

  -- ---- without that of a number

  removed-same : (m n k : ℕ) (d : A) (x : Option A) → nat_eq m k ≡ true → (n ≡ k → x ≡ None)
      → x ≡ cond (nat_eq m n) None (cond (nat_eq n k) (Some d) x)
  removed-same m n k d x e once = grind (arith, nat_tests)

  removed-other : (m n k : ℕ) (d : A) (x y : Option A) → nat_eq m k ≡ false → x ≡ cond (nat_eq m n) None y
      → cond (nat_eq n k) (Some d) x ≡ cond (nat_eq m n) None (cond (nat_eq n k) (Some d) y)
  removed-other m n k d x y e tail = grind (arith, nat_tests)

  nothing-left : (b : Bool) (x : Option A) → x ≡ None → x ≡ cond b None x
  nothing-left true x none = none
  nothing-left false x none = refl

  pub at-removed : (m n : ℕ) (fs : List (ℕ × A)) → EachOnce fs → at n (without m fs) ≡ cond (nat_eq m n) None (at n fs)
  at-removed m n [] once = nothing-left (nat_eq m n) None refl
  at-removed m n ((k, d) ∷ fs) once = by (nat_eq m k) refl (at-removed m n fs once.1)
    where
      by : (b : Bool) → nat_eq m k ≡ b → at n (without m fs) ≡ cond (nat_eq m n) None (at n fs)
          → at n (cond b fs ((k, d) ∷ without m fs)) ≡ cond (nat_eq m n) None (at n ((k, d) ∷ fs))
      by true e tail = removed-same m n k d (at n fs) e (λ same. ap (λ (i : ℕ). at i fs) same ∙ once.0)
      by false e tail = removed-other m n k d (at n (without m fs)) (at n fs) e tail

  pub once-removed : (m : ℕ) (fs : List (ℕ × A)) → EachOnce fs → EachOnce (without m fs)
  once-removed m [] once = tt
  once-removed m ((k, d) ∷ fs) once = by (nat_eq m k) refl (once-removed m fs once.1)
    where
      by : (b : Bool) → nat_eq m k ≡ b → EachOnce (without m fs) → EachOnce (cond b fs ((k, d) ∷ without m fs))
      by true e tail = once.1
      by false e tail = (at-removed m k fs once.1 ∙ ap (λ (b : Bool). cond b None (at k fs)) e ∙ once.0, tail)

  self-none : (m : ℕ) (x : Option A) → cond (nat_eq m m) None x ≡ None
  self-none m x = grind (arith, nat_tests)

  pub none-removed : (m : ℕ) (fs : List (ℕ × A)) → EachOnce fs → at m (without m fs) ≡ None
  none-removed m fs once = at-removed m m fs once ∙ self-none m (at m fs)

  -- ---- another one under a number that is there

  put-same : (m n k : ℕ) (d e : A) (x : Option A) → nat_eq m k ≡ true
      → cond (nat_eq n k) (Some e) x ≡ cond (nat_eq m n) (Some e) (cond (nat_eq n k) (Some d) x)
  put-same m n k d e x same = grind (arith, nat_tests)

  put-other : (m n k : ℕ) (d e : A) (x y : Option A) → nat_eq m k ≡ false → x ≡ cond (nat_eq m n) (Some e) y
      → cond (nat_eq n k) (Some d) x ≡ cond (nat_eq m n) (Some e) (cond (nat_eq n k) (Some d) y)
  put-other m n k d e x y apart tail = grind (arith, nat_tests)

  some-tail : (m k : ℕ) (d c : A) (z : Option A) → nat_eq m k ≡ false → cond (nat_eq m k) (Some d) z ≡ Some c
      → z ≡ Some c
  some-tail m k d c z apart there = grind (arith, nat_tests)

  some-head : (m k : ℕ) (d c : A) (z : Option A) → nat_eq m k ≡ true → cond (nat_eq m k) (Some d) z ≡ Some c
      → Some d ≡ Some c
  some-head m k d c z apart there = grind (arith, nat_tests)

  pub at-put : (m n : ℕ) (c e : A) (fs : List (ℕ × A)) → at m fs ≡ Some c
      → at n (with m e fs) ≡ cond (nat_eq m n) (Some e) (at n fs)
  at-put m n c e [] there = let clash : None ≡ Some c = there in absurd cc
  at-put m n c e ((k, d) ∷ fs) there = by (nat_eq m k) refl (at-put m n c e fs)
    where
      by : (b : Bool) → nat_eq m k ≡ b
          → (at m fs ≡ Some c → at n (with m e fs) ≡ cond (nat_eq m n) (Some e) (at n fs))
          → at n (cond b ((k, e) ∷ fs) ((k, d) ∷ with m e fs)) ≡ cond (nat_eq m n) (Some e) (at n ((k, d) ∷ fs))
      by true same tail = put-same m n k d e (at n fs) same
      by false apart tail =
          put-other m n k d e (at n (with m e fs)) (at n fs) apart
          (tail (some-tail m k d c (at m fs) apart there))

  pub once-put : (m : ℕ) (c e : A) (fs : List (ℕ × A)) → at m fs ≡ Some c → EachOnce fs → EachOnce (with m e fs)
  once-put m c e [] there once = tt
  once-put m c e ((k, d) ∷ fs) there once = by (nat_eq m k) refl (λ left. once-put m c e fs left once.1)
    where
      by : (b : Bool) → nat_eq m k ≡ b → (at m fs ≡ Some c → EachOnce (with m e fs))
          → EachOnce (cond b ((k, e) ∷ fs) ((k, d) ∷ with m e fs))
      by true same tail = once
      by false apart tail =
          let left = some-tail m k d c (at m fs) apart there in
          (at-put m k c e fs left ∙ ap (λ (b : Bool). cond b (Some e) (at k fs)) apart ∙ once.0, tail left)

  -- ---- a list is cut where a number stands

  abbrev pub values_of : List (ℕ × A) → List A
  values_of fs = map (λ f. f.1) fs

  pub record Cut (m : ℕ) (c : A) (fs : List (ℕ × A)) : Type 0 where
    pub front : List A
    pub back : List A
    pub are : values_of fs ≡ front ++ c ∷ back
    pub removed : values_of (without m fs) ≡ front ++ back
    pub put : (e : A) → values_of (with m e fs) ≡ front ++ e ∷ back

  pub cut : (m : ℕ) (c : A) (fs : List (ℕ × A)) → at m fs ≡ Some c → Cut m c fs
  cut m c [] there = let clash : None ≡ Some c = there in absurd cc
  cut m c ((k, d) ∷ fs) there = by (nat_eq m k) refl (cut m c fs)
    where
      by : (b : Bool) → nat_eq m k ≡ b → (at m fs ≡ Some c → Cut m c fs) → Cut m c ((k, d) ∷ fs)
      by true e tail =
          let head : Some d ≡ Some c = some-head m k d c (at m fs) e there in
          let same : d ≡ c = cc in
          record {
            front = [];
            back = values_of fs;
            are = ap (λ (x : A). x ∷ values_of fs) same;
            removed = ap (λ (b : Bool). values_of (cond b fs ((k, d) ∷ without m fs))) e;
            put = λ x. ap (λ (b : Bool). values_of (cond b ((k, x) ∷ fs) ((k, d) ∷ with m x fs))) e;
          }
      by false e tail =
          let r = tail (some-tail m k d c (at m fs) e there) in
          record {
            front = d ∷ r.front;
            back = r.back;
            are = ap (λ (l : List A). d ∷ l) r.are;
            removed = ap (λ (b : Bool). values_of (cond b fs ((k, d) ∷ without m fs))) e ∙ ap (λ (l : List A). d ∷ l) r.removed;
            put = λ x. ap (λ (b : Bool). values_of (cond b ((k, x) ∷ fs) ((k, d) ∷ with m x fs))) e ∙ ap (λ (l : List A). d ∷ l) (r.put x);
          }
