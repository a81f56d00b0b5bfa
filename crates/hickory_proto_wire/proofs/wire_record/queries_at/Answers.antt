use Rattle.std.proofs.Common.{◌∙◌}
use Rattle.std.proofs.lemmas.Result.{err_from_is_err_and}
use Rattle.hickory_proto_wire.specs.Records.{repeat_at, query_at}
use Rattle.hickory_proto_wire.proofs.Loops.{goes_on, ends, is_done}
use Rattle.hickory_proto_wire.proofs.wire_record.queries_at.Goals as goal

pub returns-in_err-query-clause-exact : goal.returns-in_err-query-clause-exact
returns-in_err-query-clause-exact c =
    let p = err_from_is_err_and c.from_residual.result c.from_residual.ensures.1 in
    rw (p.1, p.2)
    (ends c.in_err-query.field-0.0 (query_at c.args.bytes.now) c.loop.queries.items c.args.count c.loop.counter c.loop.at
    (repeat_at (query_at c.args.bytes.now) c.args.count c.args.at) c.loop-test.true c.in_err-query.ensures.exact c.loop.invariant.0)

pub loop-preserved : goal.loop-preserved
loop-preserved c = (
  rw c.in_ok-push.ensures.items
      (goes_on (query_at c.args.bytes.now) c.loop.queries.items c.args.count c.loop.counter c.loop.at c.in_ok-query.query
      c.in_ok-query.after (repeat_at (query_at c.args.bytes.now) c.args.count c.args.at) c.loop-test.true c.in_ok-query.ensures.exact
      c.loop.invariant.0),
  c.in_ok-query.ensures.same ∙ c.loop.invariant.1,
)

pub returns-clause-exact : goal.returns-clause-exact
returns-clause-exact c =
    is_done (query_at c.args.bytes.now) c.loop.queries.items c.args.count c.loop.counter c.loop.at
    (repeat_at (query_at c.args.bytes.now) c.args.count c.args.at) c.loop-test.false c.loop.invariant.0
