-- What a caller sees of a watched reader or writer.
use Rattle.std.specs.Prelude.{ℕ, Bool, true, ◌&&◌, ◌==◌, nat_lt, Result, Ok, Err}

-- the reader or the writer, and whether a call of it has failed
pub record WatchedValue (T : Type 0) : Type 0 where
  pub inner : T
  pub failed : Bool

-- a write of this many bytes fails where it answers an error, or takes none of at least one
abbrev pub write_fails : {E : Type 0} → ℕ → Result ℕ E → Bool
write_fails count (Ok taken) = (taken == 0) && nat_lt 0 count
write_fails count (Err error) = true
