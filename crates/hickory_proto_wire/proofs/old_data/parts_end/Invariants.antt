use Rattle.std.proofs.Common.{◌≡◌, drop}
use Rattle.hickory_proto_wire.specs.OldData.{uncompressed_name_at, parts_at, end_of}
use Rattle.hickory_proto_wire.proofs.old_data.parts_end.Given as goal

abbrev pub invariant-loop-part : goal.invariant-loop-part
invariant-loop-part l =
    end_of (parts_at uncompressed_name_at (drop l.part-index l.parts) l.octets l.at)
    ≡ end_of (parts_at uncompressed_name_at l.parts l.octets 0)
