use Rattle.std.proofs.Common.{◌≡◌, drop}
use Rattle.hickory_proto_wire.specs.Octets.{with_front}
use Rattle.hickory_proto_wire.specs.OldData.{whole_name_at, parts_at}
use Rattle.hickory_proto_wire.proofs.old_data.parts_at.Given as goal

abbrev pub invariant-loop-part : goal.invariant-loop-part
invariant-loop-part l =
    with_front l.out.items (parts_at whole_name_at (drop l.part-index l.parts) l.bytes l.at) ≡ parts_at whole_name_at l.parts l.bytes l.fn.at
