use Rattle.std.proofs.Common.{◌∙◌}
use Rattle.std.proofs.lemmas.Result.{err_from_is_err_and}
use Rattle.hickory_proto_wire.specs.Records.{additionals_at, nothing_found}
use Rattle.hickory_proto_wire.proofs.Loops.{found_goes_on, head_ends, found_ends, found_done}
use Rattle.hickory_proto_wire.proofs.wire_record.additionals_at.Goals as goal

pub returns-in_err-head-clause-exact : goal.returns-in_err-head-clause-exact
returns-in_err-head-clause-exact c =
    let p = err_from_is_err_and c.from_residual.result c.from_residual.ensures.1 in
    rw (p.1, p.2)
    (head_ends c.in_err-head.field-0.0 c.args.bytes.now c.args.count c.loop.counter c.loop.at c.loop.found
    (additionals_at c.args.count c.args.bytes.now c.args.at nothing_found) c.loop-test.true
    c.in_err-head.ensures.exact c.loop.invariant.0)

pub returns-in_err-found-clause-exact : goal.returns-in_err-found-clause-exact
returns-in_err-found-clause-exact c =
    let p = err_from_is_err_and c.from_residual-in_err-found.result c.from_residual-in_err-found.ensures.1 in
    rw (p.1, p.2)
    (found_ends c.in_err-found.field-0.0 c.args.bytes.now c.args.count c.loop.counter c.loop.at c.in_ok-head.head
    c.loop.found (additionals_at c.args.count c.args.bytes.now c.args.at nothing_found) c.loop-test.true
    c.in_ok-head.ensures.exact c.in_err-found.ensures.exact c.loop.invariant.0)

pub loop-preserved : goal.loop-preserved
loop-preserved c = (
  found_goes_on c.args.bytes.now c.args.count c.loop.counter c.loop.at c.in_ok-head.head c.loop.found
      c.in_ok-found.found (additionals_at c.args.count c.args.bytes.now c.args.at nothing_found) c.loop-test.true
      c.in_ok-head.ensures.exact c.in_ok-found.ensures.exact c.loop.invariant.0,
  c.in_ok-found.ensures.same ∙ c.in_ok-head.ensures.same ∙ c.loop.invariant.1,
)

pub returns-clause-exact : goal.returns-clause-exact
returns-clause-exact c =
    found_done c.args.bytes.now c.args.count c.loop.counter c.loop.at c.loop.found
    (additionals_at c.args.count c.args.bytes.now c.args.at nothing_found) c.loop-test.false c.loop.invariant.0
