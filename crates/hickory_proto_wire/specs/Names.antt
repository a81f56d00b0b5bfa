-- Names on the wire (RFC 1035, sections 3.1 and 4.1.4).
use Rattle.std.specs.Prelude.{ℕ, zero, suc, ◌+◌, ◌*◌, ◌-◌, List, [], ◌∷◌, Result, Ok, Err, true, nat_lt, ◌==◌, if◌then◌else◌}
use Rattle.hickory_proto_names.specs.Name.{NameValue}
use Rattle.hickory_proto_wire.specs.declared.wire_error.WireFault.{WireFault}
use Rattle.hickory_proto_wire.specs.declared.wire_error.WireFault.TheVariants.{BadLabel, NameTooLong, TooManyPointers, PointerNotBack}
use Rattle.hickory_proto_wire.specs.declared.wire_name.Piece.{Piece}
use Rattle.hickory_proto_wire.specs.declared.wire_name.Piece.TheVariants.{Root, Label, Pointer}
use Rattle.hickory_proto_wire.specs.declared.wire_name.Walk.{Walk}
use Rattle.hickory_proto_wire.specs.Octets.{◌>>=◌, octet_at, octets_at}

-- what a name goes on with: the root's length of 0, a label's of 1 to 63, or two octets from 192 on, of which the
-- other 14 bits are a position
unfoldable pub piece_at : List ℕ → ℕ → Result (Piece × ℕ) WireFault
piece_at bytes at = do
  first ← octet_at bytes at
  if first.0 == 0 then Ok (Root, first.1) else (
      if nat_lt first.0 64 then Ok (Label first.0, first.1) else (
      if nat_lt first.0 192 then Err BadLabel else (
      octet_at bytes first.1 >>= λ low. Ok (Pointer ((first.0 - 192) * 256 + low.0), low.1))))

-- the walk behind a label, and at the place that a pointer leads to
abbrev pub behind_label : Walk → ℕ → ℕ → Walk
behind_label walk len at = record { start = walk.start; at = at; left = walk.left - (len + 1); jumps = walk.jumps }

abbrev pub at_target : Walk → ℕ → Walk
at_target walk target = record { start = target; at = target; left = walk.left; jumps = walk.jumps - 1 }

-- The labels of a name, and the position behind it: behind its root, or behind its first pointer. A pointer leads
-- back to before the labels that it stands behind. The rest of the name may take `left` octets, the root's with
-- them, and go by `jumps` pointers. No name takes more than 256 steps: 127 labels, 128 pointers and the root.
unfoldable pub labels_at : ℕ → List ℕ → Walk → Result (List (List ℕ) × ℕ) WireFault
labels_at zero bytes walk = Err NameTooLong
labels_at (suc steps) bytes walk = do
  piece ← piece_at bytes walk.at
  elim piece.0 as (λ _. Result (List (List ℕ) × ℕ) WireFault) [
    | Root ↦ Ok ([], piece.1)
    | Label len ↦ if nat_lt walk.left (len + 2) then Err NameTooLong else (
        octets_at len bytes piece.1 >>= λ label.
        labels_at steps bytes (behind_label walk len label.1) >>= λ rest.
        Ok (label.0 ∷ rest.0, rest.1))
    | Pointer target ↦ if walk.jumps == 0 then Err TooManyPointers else (
        if nat_lt target walk.start
        then (labels_at steps bytes (at_target walk target) >>= λ rest. Ok (rest.0, piece.1))
        else Err PointerNotBack)
  ]

-- a name takes at most 255 octets, and at most 128 pointers
abbrev pub name_start : ℕ → Walk
name_start at = record { start = at; at = at; left = 255; jumps = 128 }

unfoldable pub name_at : List ℕ → ℕ → Result (NameValue × ℕ) WireFault
name_at bytes at = do
  labels ← labels_at 256 bytes (name_start at)
  Ok (record { labels = labels.0; fqdn = true }, labels.1)
