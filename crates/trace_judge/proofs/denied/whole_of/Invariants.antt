use Rattle.std.proofs.Common.{◌≡◌}
use Rattle.trace_judge.specs.Index.{whole_below}
use Rattle.trace_judge.proofs.denied.whole_of.Given as goal

abbrev pub invariant-loop-count : goal.invariant-loop-count
invariant-loop-count l = l.latest ≡ whole_below l.names l.dns_class l.name l.count
