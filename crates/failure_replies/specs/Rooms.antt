-- Octets in a room of a caller.
use Rattle.std.specs.Prelude.{ℕ, ◌+◌, List, ◌++◌, length, take, drop, nat_le, Option, None, Some, if◌then◌else◌}

-- octets where so many are enough
abbrev pub within : ℕ → List ℕ → Option (List ℕ)
within most octets = if nat_le (length octets) most then Some octets else None

-- a room with this at its front, the rest as it was
abbrev pub put_in : List ℕ → Option (List ℕ) → List ℕ
put_in room None = room
put_in room (Some octets) = octets ++ drop (length octets) room

-- a part of a room written over
abbrev pub over : List ℕ → ℕ → List ℕ → List ℕ
over room at octets = take at room ++ (octets ++ drop (at + length octets) room)
