-- One more fetch is left.
use Rattle.std.proofs.Common.{◌∙◌, ◌<◌, ap, arith, length, sym, subst}
use Rattle.std.specs.Prelude.{IsSome}
use Rattle.yimarotu_forwarder.specs.FetchTables.{fetches_of}
use Rattle.yimarotu_forwarder.proofs.Left.{left_next, never}
use Rattle.yimarotu_forwarder.proofs.leaving.leave_fetches.Goals.{in-Some, in_default}
use Rattle.yimarotu_forwarder.proofs.leaving.leave_fetches.Goals as goal

pub loop-index-preserved : goal.loop-index-preserved
loop-index-preserved c =
    let within : c.loop-index.index < length c.loop-index.fetches.fetches.entries =
    omega (arith, c.loop-index-test.true, c.len-index-end.ensures.len, c.loop-index.invariant.length_is) in
    elim c.match-get_index_mut.branch [
      | in-Some w ↦
          left_next c.args.client c.loop-index.index (fetches_of c.args.fetches.now) (fetches_of c.loop-index.fetches)
          (fetches_of c.match-get_index_mut.fetches) c.args.counts.now c.loop-index.counts c.match-get_index_mut.counts
          w.in-Some.fetch.now w.leave_fetch.new.fetch c.loop-index.invariant (sym w.in-Some.ensures.value)
          w.leave_fetch.ensures.fetch (w.counts-is ∙ w.leave_fetch.ensures.counts) (ap fetches_of w.fetches-is)
      | in_default w ↦ absurd (never (subst IsSome w.in_default.is (c.get_index_mut.ensures.found.1 within)))
    ]
