-- So many numbers, of which the first counts first: each falling sequence of them ends.
use Rattle.std.proofs.Common.{◌≡◌, ◌≤◌, ◌<◌, suc, zero, ℕ, Bool, true, false, ltb, ltb-true, ltb-false, refl, subst, inl, inr, ◌⊎◌, arith}

abbrev pub Numbers : ℕ → Type 0
Numbers zero = Unit {0}
Numbers (suc k) = ℕ × Numbers k

abbrev pub Less : (k : ℕ) → Numbers k → Numbers k → Type 0
Less zero v w = ⊥
Less (suc k) v w = (v.0 < w.0) ⊎ ((v.0 ≤ w.0) × Less k v.1 w.1)

pub data Ends (k : ℕ) : Numbers k → Type 0 where
  ends : (w : Numbers k) → ((v : Numbers k) → Less k v w → Ends k v) → Ends k w

ends-under : (k n : ℕ) → ((m : ℕ) → m < n → (v : Numbers k) → Ends (suc k) (m, v)) → (w : Numbers k) → Ends k w
    → Ends (suc k) (n, w)
ends-under k n below _ (ends w more) = ends (n, w) (by (λ v less. ends-under k n below v (more v less)))
  where
    at : ((v : Numbers k) → Less k v w → Ends (suc k) (n, v)) → (m : ℕ) (v : Numbers k) → m ≤ n → Less k v w → (b : Bool)
        → ltb m n ≡ b → Ends (suc k) (m, v)
    at next m v le less true is = below m (ltb-true m n is) v
    at next m v le less false is =
        let most = ltb-false m n is in
        let same : n ≡ m = omega (arith, le, most) in
        subst (λ (i : ℕ). Ends (suc k) (i, v)) same (next v less)

    by : ((v : Numbers k) → Less k v w → Ends (suc k) (n, v)) → (v : Numbers (suc k)) → Less (suc k) v (n, w)
        → Ends (suc k) v
    by next v (inl less) = below v.0 less v.1
    by next v (inr both) = at next v.0 v.1 both.0 both.1 (ltb v.0 n) refl

pub all-end : (k : ℕ) (w : Numbers k) → Ends k w
all-end zero w = ends w (λ v less. absurd less)
all-end (suc k) w = below (λ v. all-end k v) (suc w.0) w.0 (omega arith) w.1
  where
    below : ((v : Numbers k) → Ends k v) → (n m : ℕ) → m < n → (v : Numbers k) → Ends (suc k) (m, v)
    below rest zero m less v = absurd (omega (arith, less))
    below rest (suc n) m less v =
        ends-under k m (λ i lower u. below rest n i (omega (arith, lower, less)) u) v (rest v)
