-- A box that is written to.
use Rattle.std.proofs.Common.{◌≡◌, Box, Option, Some, Result, Ok, Err, OnErr, sym, ap, ◌∙◌}
use Rattle.std.specs.Box.{with_value}

-- a box that has what it had is the same box
pub same_box : {X Z T E : Type 0} (r : Result T E) (b : Box X Z) (new old : X) (kept : Option (Box X Z)) → kept ≡ Some b → old ≡ b.value
    → OnErr r (new ≡ old) → OnErr r (Some (with_value b new) ≡ kept)
same_box (Ok y) b new old kept is had same = tt
same_box (Err e) b new old kept is had same = ap (λ x. Some (with_value b x)) (same ∙ had) ∙ sym is
