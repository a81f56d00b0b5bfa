use Rattle.std.proofs.Common.{ap, sym, ◌∙◌}
use Rattle.hickory_proto_wire.specs.Written.{Body, record_added}
use Rattle.hickory_proto_wire.specs.Refused.{record_data_fault}
use Rattle.hickory_proto_wire.specs.Made.{record_flaw}
use Rattle.hickory_proto_wire.proofs.Faults.{one_none, more_none}
use Rattle.hickory_proto_wire.proofs.Keeps.{fold_more}
use Rattle.hickory_proto_wire.proofs.section_writer.add_records.Goals as goal

pub add_record-requires : goal.add_record-requires
add_record-requires c =
    one_none record_data_fault c.args.records.now c.loop-i.i c.index-records-i.result c.requires.right c.loop-i-test.true
    c.index-records-i.is

pub loop-i-preserved : goal.loop-i-preserved
loop-i-preserved c =
    let start : Body = record { octets = c.args.body.now.items; places = c.args.places.now.items } in
    let r = c.index-records-i.result in
    let there = c.in_ok-is_there.ensures.added c.if-not-is_there.false in (
      there.0 ∙ ap (λ (b : Body). record_added b r) c.loop-i.invariant.0
          ∙ sym (fold_more record_added start c.args.records.now c.loop-i.i r c.loop-i-test.true c.index-records-i.is),
      there.1,
      more_none record_flaw c.args.records.now c.loop-i.i r c.loop-i-test.true c.index-records-i.is c.loop-i.invariant.2
          c.in_ok-is_there.ensures.valid,
    )
