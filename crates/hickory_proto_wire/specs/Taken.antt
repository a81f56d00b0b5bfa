-- Labels that were taken: from which places, in order, and how many.
use Rattle.std.specs.Prelude.{ℕ, List}

pub record Taken : Type 0 where
  pub places : List ℕ
  pub labels : ℕ
