use Rattle.std.proofs.Common.{◌≡◌, ◌++◌, ◌+◌, drop}
use Rattle.hickory_proto_names.specs.Name.{label_bytes}
use Rattle.hickory_proto_wire.specs.Written.{name_octets, whole_count}
use Rattle.hickory_proto_wire.proofs.name_writer.put_labels.Given as goal

abbrev pub invariant-loop-count : goal.invariant-loop-count
invariant-loop-count l =
    (l.out.items ++ name_octets l.places (drop l.count (label_bytes l.labels))
    ≡ l.fn.out.items ++ name_octets l.places (label_bytes l.labels))
    × (l.count + whole_count l.places (drop l.count (label_bytes l.labels)) ≡ whole_count l.places (label_bytes l.labels))
