use Rattle.std.proofs.lemmas.Result.{err_from_is_err_and}
use Rattle.hickory_proto_wire.specs.Refused.{record_fault}
use Rattle.hickory_proto_wire.proofs.Faults.{more_none, fault_found, all_none}
use Rattle.hickory_proto_wire.proofs.checks.check_records.Goals as goal

pub returns-in_err-check_record : goal.returns-in_err-check_record
returns-in_err-check_record c =
    let p = err_from_is_err_and c.from_residual.result c.from_residual.ensures.1 in
    rw (p.1, p.2)
    (fault_found record_fault c.args.records.now c.loop-i.i c.index-records-i.result _ c.loop-i-test.true c.index-records-i.is
    c.loop-i.invariant c.in_err-check_record.ensures)

pub loop-i-preserved : goal.loop-i-preserved
loop-i-preserved c =
    more_none record_fault c.args.records.now c.loop-i.i c.index-records-i.result c.loop-i-test.true c.index-records-i.is
    c.loop-i.invariant c.in_ok-check_record.ensures

pub returns : goal.returns
returns c = all_none record_fault c.args.records.now c.loop-i.i c.loop-i-test.false c.loop-i.invariant
