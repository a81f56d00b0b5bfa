use Rattle.std.proofs.Common.{◌≡◌}
use Rattle.trace_judge.specs.Index.{any_owner}
use Rattle.trace_judge.specs.MadeIndex.{gap_makes}
use Rattle.trace_judge.proofs.owners.any_owner.Given as goal

-- whether one of those that are still to come says so
abbrev pub invariant-loop-seen : goal.invariant-loop-seen
invariant-loop-seen l =
    any_owner l.from (gap_makes l.dns_class l.gap) l.seen-iterator ≡ any_owner l.from (gap_makes l.dns_class l.gap) l.owners
