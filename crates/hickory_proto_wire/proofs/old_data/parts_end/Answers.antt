use Rattle.std.proofs.Common.{sym, ◌∙◌}
use Rattle.hickory_proto_wire.specs.OldData.{uncompressed_name_at, parts_at, end_of}
use Rattle.hickory_proto_wire.proofs.Parts.{end_goes_on, end_fails, end_done}
use Rattle.hickory_proto_wire.proofs.old_data.parts_end.Goals as goal

pub returns-in_err-at : goal.returns-in_err-at
returns-in_err-at c =
    c.from_residual.ensures
    ∙ sym (end_fails uncompressed_name_at c.args.octets.now c.args.parts.now c.loop-part.part-index c.loop-part.at _
    (end_of (parts_at uncompressed_name_at c.args.parts.now c.args.octets.now 0)) c.loop-part-test.true
    (sym c.in_err-at.ensures) c.loop-part.invariant)

pub loop-part-preserved : goal.loop-part-preserved
loop-part-preserved c =
    end_goes_on uncompressed_name_at c.args.octets.now c.args.parts.now c.loop-part.part-index c.loop-part.at c.in_ok-at.at _
    (end_of (parts_at uncompressed_name_at c.args.parts.now c.args.octets.now 0)) c.loop-part-test.true
    (sym c.in_ok-at.ensures) c.loop-part.invariant

pub returns : goal.returns
returns c =
    sym (end_done uncompressed_name_at c.args.octets.now c.args.parts.now c.loop-part.part-index c.loop-part.at
    (end_of (parts_at uncompressed_name_at c.args.parts.now c.args.octets.now 0)) c.loop-part-test.false c.loop-part.invariant)
