use Rattle.std.proofs.Common.{ap}
use Rattle.hickory_proto_names.specs.Name.{label_bytes}
use Rattle.hickory_proto_wire.proofs.Fits.{no_fault}
use Rattle.hickory_proto_wire.proofs.wire_name.own_name_at.Goals as goal

pub unreachable-requires : goal.unreachable-requires
unreachable-requires c =
    let none =
    no_fault (label_bytes c.new-labels.result.items) c.args.bytes.now c.args.at
    (label_bytes c.labels_at.new.labels.items) c.in_ok-end.end (ap label_bytes c.new-labels.ensures.items)
    c.in_ok-end.ensures in
    cc (none, c.in-Err.ensures.err)
