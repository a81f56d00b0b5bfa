-- A name that stands in a message from one of its labels on, and where (RFC 1035, section 4.1.4).
use Rattle.std.specs.Prelude.{ℕ, List}

pub record PlaceValue : Type 0 where
  pub labels : List (List ℕ)
  pub at : ℕ
