-- Where the labels of a name stand, and how many it has (RFC 1035, section 4.1.4).
use Rattle.std.specs.Prelude.{ℕ, zero, suc, List, length, Result, Ok, Err}
use Rattle.hickory_proto_wire.specs.declared.wire_error.WireFault.{WireFault}
use Rattle.hickory_proto_wire.specs.declared.wire_name.Piece.{Piece}
use Rattle.hickory_proto_wire.specs.declared.wire_name.Piece.TheVariants.{Root, Label, Pointer}
use Rattle.hickory_proto_wire.specs.Octets.{◌>>=◌}
use Rattle.hickory_proto_wire.specs.Names.{piece_at, labels_at, name_start}

-- where a pointer leads to, on from there, or the place itself where no pointer stands
abbrev pub led_on : ℕ → Result (Piece × ℕ) WireFault → (ℕ → ℕ) → ℕ
led_on at (Ok (Pointer target, after)) on = on target
led_on at (Ok (Root, after)) on = at
led_on at (Ok (Label len, after)) on = at
led_on at (Err fault) on = at

-- The place where the labels of the name at a position stand: that position, or, where a pointer stands there, the
-- place that it leads to, over as many pointers as stand one after another.
unfoldable pub place_from : ℕ → List ℕ → ℕ → ℕ
place_from zero bytes at = at
place_from (suc pointers) bytes at = led_on at (piece_at bytes at) (place_from pointers bytes)

abbrev pub labels_place : List ℕ → ℕ → ℕ
labels_place bytes at = place_from 128 bytes at

-- how many labels were read, and the position behind
abbrev pub measured : Result (List (List ℕ) × ℕ) WireFault → Result (ℕ × ℕ) WireFault
measured read = read >>= λ x. Ok (length x.0, x.1)

-- how many labels the name at a position has, and the position behind it
abbrev pub measure : List ℕ → ℕ → Result (ℕ × ℕ) WireFault
measure bytes at = measured (labels_at 256 bytes (name_start at))
