use Rattle.std.proofs.Common.{◌∙◌}
use Rattle.std.proofs.lemmas.Result.{err_from_is_err_and}
use Rattle.hickory_proto_wire.specs.Records.{repeat_at, record_at}
use Rattle.hickory_proto_wire.proofs.Loops.{goes_on, ends, is_done}
use Rattle.hickory_proto_wire.proofs.wire_record.records_at.Goals as goal

pub returns-in_err-added-clause-exact : goal.returns-in_err-added-clause-exact
returns-in_err-added-clause-exact c =
    let p = err_from_is_err_and c.from_residual.result c.from_residual.ensures.1 in
    rw (p.1, p.2)
    (ends c.in_err-added.field-0.0 (record_at c.args.bytes.now) c.loop.records.items c.args.count c.loop.counter c.loop.at
    (repeat_at (record_at c.args.bytes.now) c.args.count c.args.at) c.loop-test.true c.in_err-added.ensures.exact c.loop.invariant.0)

pub loop-preserved : goal.loop-preserved
loop-preserved c = (
  rw c.in_ok-push.ensures.items
      (goes_on (record_at c.args.bytes.now) c.loop.records.items c.args.count c.loop.counter c.loop.at c.in_ok-added.added
      c.in_ok-added.after (repeat_at (record_at c.args.bytes.now) c.args.count c.args.at) c.loop-test.true c.in_ok-added.ensures.exact
      c.loop.invariant.0),
  c.in_ok-added.ensures.same ∙ c.loop.invariant.1,
)

pub returns-clause-exact : goal.returns-clause-exact
returns-clause-exact c =
    is_done (record_at c.args.bytes.now) c.loop.records.items c.args.count c.loop.counter c.loop.at
    (repeat_at (record_at c.args.bytes.now) c.args.count c.args.at) c.loop-test.false c.loop.invariant.0
