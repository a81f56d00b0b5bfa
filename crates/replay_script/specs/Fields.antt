-- The lines of a script, and the fields of a line.
use Rattle.std.specs.Prelude.{ℕ, Bool, true, not, ◌||◌, ◌&&◌, ◌==◌, nat_lt, nat_le, List, filter, find, length}
use Rattle.std.specs.List.{slice_split}
use Rattle.std.specs.Option.{option_map_or}

-- spaces and TABs
abbrev pub is_blank : ℕ → Bool
is_blank byte = (byte == 32) || (byte == 9)

abbrev pub is_plain : ℕ → Bool
is_plain byte = not (is_blank byte)

-- TAB, and the printable bytes of ASCII
abbrev pub is_allowed : ℕ → Bool
is_allowed byte = (byte == 9) || (nat_le 32 byte && nat_le byte 126)

-- what stands between blanks: no field is empty
abbrev pub fields : List ℕ → List (List ℕ)
fields line = filter (λ field. nat_lt 0 (length field)) (slice_split is_blank line)

-- a line that says nothing: it is blank, or `#` is the first byte that isn't
abbrev pub is_skipped : List ℕ → Bool
is_skipped line = option_map_or (λ byte. byte == 35) (find is_plain line) true
