use Rattle.std.proofs.Common.{◌≡◌, length, drop}
use Rattle.std.specs.Cmp.Lexicographic.{pointwise}
use Rattle.hickory_proto_wire.proofs.Same.{same_label}
use Rattle.hickory_proto_wire.proofs.name_writer.are_same.Given as goal

abbrev pub invariant-loop-i : goal.invariant-loop-i
invariant-loop-i l =
    (length l.a ≡ length l.b) × (pointwise same_label (drop l.i l.a) (drop l.i l.b) ≡ pointwise same_label l.a l.b)
