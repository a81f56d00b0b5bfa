use Rattle.std.proofs.lemmas.Result.{err_from_is_err_and}
use Rattle.hickory_proto_wire.specs.Refused.{query_fault}
use Rattle.hickory_proto_wire.proofs.Faults.{more_none, fault_found, all_none}
use Rattle.hickory_proto_wire.proofs.checks.check_queries.Goals as goal

pub returns-in_err-check_query : goal.returns-in_err-check_query
returns-in_err-check_query c =
    let p = err_from_is_err_and c.from_residual.result c.from_residual.ensures.1 in
    rw (p.1, p.2)
    (fault_found query_fault c.args.queries.now c.loop-i.i c.index-queries-i.result _ c.loop-i-test.true c.index-queries-i.is
    c.loop-i.invariant c.in_err-check_query.ensures)

pub loop-i-preserved : goal.loop-i-preserved
loop-i-preserved c =
    more_none query_fault c.args.queries.now c.loop-i.i c.index-queries-i.result c.loop-i-test.true c.index-queries-i.is
    c.loop-i.invariant c.in_ok-check_query.ensures

pub returns : goal.returns
returns c = all_none query_fault c.args.queries.now c.loop-i.i c.loop-i-test.false c.loop-i.invariant
