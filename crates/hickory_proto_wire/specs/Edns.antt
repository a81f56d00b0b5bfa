-- The OPT record as plain data (RFC 6891, section 6.1).
use Rattle.std.specs.Prelude.{ℕ, List, Option, None, Some, ◌<◌}

pub record EdnsValue : Type 0 where
  pub size : ℕ
  pub version : ℕ
  pub flags : ℕ
  pub options : List ℕ

-- version and flags have 8 and 16 bits
abbrev pub IsInRange : EdnsValue → Type 0
IsInRange e = (e.version < 256) × (e.flags < 65536)

abbrev pub AreInRange : Option EdnsValue → Type 0
AreInRange None = Unit {0}
AreInRange (Some e) = IsInRange e
