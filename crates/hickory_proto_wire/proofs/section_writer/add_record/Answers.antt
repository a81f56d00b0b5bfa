use Rattle.std.proofs.Common.{length, ap, arith}
use Rattle.hickory_proto_core.specs.Records.{RecordValue}
use Rattle.hickory_proto_wire.proofs.Places.{few_whole}
use Rattle.hickory_proto_wire.proofs.section_writer.add_record.Goals as goal

pub note_name-requires : goal.note_name-requires
note_name-requires c =
    omega (
      arith,
      ap (λ (r : RecordValue). length r.name.labels) c.added.view_is,
      c.in_ok-whole.ensures.whole,
      few_whole c.deref.result.now c.args.added.now.name.labels,
    )
