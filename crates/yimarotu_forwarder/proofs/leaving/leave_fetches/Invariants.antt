-- The fetches behind are still to be left.
use Rattle.yimarotu_forwarder.specs.FetchTables.{fetches_of}
use Rattle.yimarotu_forwarder.proofs.Left.{AreLeft}
use Rattle.yimarotu_forwarder.proofs.leaving.leave_fetches.Given as goal

abbrev pub invariant-loop-index : goal.invariant-loop-index
invariant-loop-index l =
    AreLeft l.client l.index (fetches_of l.fn.fetches) (fetches_of l.fetches) l.fn.counts l.counts
