-- The first byte that passes a test, as a search finds it.
use Rattle.std.proofs.Common.{◌≡◌, ℕ, Bool, false, List, length, None, Some, Option, slice_index, arith, ⊎_elim}
use Rattle.std.proofs.lemmas.Bool.{cases_Bool}
use Rattle.std.proofs.lemmas.Grind.{common_steps}
use Rattle.std.proofs.lemmas.List.Sums.{position_or_len_is}
use Rattle.std.specs.List.{position, position_or_len}
use Rattle.memchr.specs.Find.{IsFirstByte, Passes}

module _ (test : ℕ → Bool) (hay : List ℕ) where
  fails : (k : ℕ) → ¬ Passes test hay k → test (slice_index hay k) ≡ false
  fails k h = ⊎_elim (λ t. absurd (h t)) (λ f. f) (cases_Bool (test _))

  pub first_byte_position : (r : Option ℕ) → IsFirstByte test hay r → r ≡ position test hay
  first_byte_position None h =
      let at : position_or_len test hay ≡ length hay = position_or_len_is test hay (length hay) 0 (omega arith) (λ k below. fails k (h k (omega arith) below)) (λ less. absurd (omega arith)) in
      grind (arith, common_steps)
  first_byte_position (Some k) h =
      let at : position_or_len test hay ≡ k = position_or_len_is test hay k 0 (omega (arith, h.0.high)) (λ j below. fails j (h.0.before j (omega arith) below)) (λ _. h.1) in
      let high = h.0.high in
      grind (arith, common_steps)
