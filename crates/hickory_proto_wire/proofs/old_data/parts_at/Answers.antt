use Rattle.std.proofs.lemmas.Result.{err_from_is_err_and}
use Rattle.hickory_proto_wire.specs.OldData.{whole_name_at, parts_at}
use Rattle.hickory_proto_wire.proofs.Parts.{part_goes_on, part_ends, parts_done}
use Rattle.hickory_proto_wire.proofs.old_data.parts_at.Goals as goal

pub returns-in_err-at : goal.returns-in_err-at
returns-in_err-at c =
    let p = err_from_is_err_and c.from_residual.result c.from_residual.ensures.1 in
    rw (p.1, p.2)
    (part_ends c.in_err-at.field-0.0 whole_name_at c.loop-part.out.items c.args.bytes.now c.args.parts.now c.loop-part.part-index
    c.loop-part.at _ (parts_at whole_name_at c.args.parts.now c.args.bytes.now c.args.at) c.loop-part-test.true c.in_err-at.ensures
    c.loop-part.invariant)

pub loop-part-preserved : goal.loop-part-preserved
loop-part-preserved c =
    part_goes_on whole_name_at c.loop-part.out.items c.add_part.new.out.items c.args.bytes.now c.args.parts.now
    c.loop-part.part-index c.loop-part.at c.in_ok-at.at _ (parts_at whole_name_at c.args.parts.now c.args.bytes.now c.args.at)
    c.loop-part-test.true c.in_ok-at.ensures c.loop-part.invariant

pub returns : goal.returns
returns c =
    parts_done whole_name_at c.loop-part.out.items c.args.bytes.now c.args.parts.now c.loop-part.part-index c.loop-part.at
    (parts_at whole_name_at c.args.parts.now c.args.bytes.now c.args.at) c.loop-part-test.false c.loop-part.invariant
