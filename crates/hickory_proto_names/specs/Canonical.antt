-- How the canonical form of labels is kept: in the value itself where it is short, and else in memory of its own.
use Rattle.std.specs.Prelude.{ℕ, ◌≤◌, List, take}
use Rattle.hickory_proto_names.specs.declared.canonical.TheConstants.{SHORT}
use Rattle.hickory_proto_names.specs.declared.canonical.Canonical.{Canonical}
use Rattle.hickory_proto_names.specs.declared.canonical.Canonical.TheVariants.{Short, Long}

-- the bytes of the form
abbrev pub kept_bytes : Canonical → List ℕ
kept_bytes (Short len bytes) = take len bytes
kept_bytes (Long form) = form.items

-- a short form has no more bytes than there is room for
abbrev pub IsWithin : Canonical → Type 0
IsWithin (Short len bytes) = len ≤ SHORT
IsWithin (Long form) = Unit {0}
