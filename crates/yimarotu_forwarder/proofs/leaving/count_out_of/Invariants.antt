-- What is counted out of the requests behind.
use Rattle.std.proofs.Common.{◌≡◌, drop}
use Rattle.yimarotu_forwarder.specs.Leaving.{counts_without}
use Rattle.yimarotu_forwarder.proofs.leaving.count_out_of.Given as goal

abbrev pub invariant-loop-request : goal.invariant-loop-request
invariant-loop-request l =
    counts_without l.client l.counts (drop l.request-index l.requests) ≡ counts_without l.client l.fn.counts l.requests
