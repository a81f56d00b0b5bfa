use Rattle.std.proofs.Common.{◌≡◌, ◌-◌, drop}
use Rattle.hickory_proto_wire.specs.Written.{noted}
use Rattle.hickory_proto_wire.proofs.name_writer.note_name.Given as goal

abbrev pub invariant-loop-i : goal.invariant-loop-i
invariant-loop-i l =
    noted l.places.items (l.whole - l.i) l.at (drop l.i l.fn.name.labels)
    ≡ noted l.fn.places.items l.whole l.fn.at l.fn.name.labels
