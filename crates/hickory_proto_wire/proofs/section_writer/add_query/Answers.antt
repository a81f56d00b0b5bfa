use Rattle.std.proofs.Common.{arith}
use Rattle.hickory_proto_wire.proofs.Places.{few_whole}
use Rattle.hickory_proto_wire.proofs.section_writer.add_query.Goals as goal

pub note_name-requires : goal.note_name-requires
note_name-requires c =
    omega (arith, c.in_ok-whole.ensures.whole, few_whole c.deref.result.now c.args.query.now.name.labels)
