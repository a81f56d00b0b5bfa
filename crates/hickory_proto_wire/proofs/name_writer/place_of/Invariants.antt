use Rattle.std.proofs.Common.{◌≡◌, drop}
use Rattle.hickory_proto_names.specs.Name.{label_bytes}
use Rattle.hickory_proto_wire.specs.Written.{place_of}
use Rattle.hickory_proto_wire.proofs.name_writer.place_of.Given as goal

abbrev pub invariant-loop-i : goal.invariant-loop-i
invariant-loop-i l = place_of (drop l.i l.places) (label_bytes l.labels) ≡ place_of l.places (label_bytes l.labels)
