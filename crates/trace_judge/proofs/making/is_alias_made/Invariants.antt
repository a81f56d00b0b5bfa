use Rattle.std.proofs.Common.{◌≡◌}
use Rattle.trace_judge.specs.MadeIndex.{is_alias_made_at}
use Rattle.trace_judge.specs.Below.{some_below}
use Rattle.trace_judge.proofs.making.is_alias_made.Given as goal

-- whether some owner of fewer labels makes it
abbrev pub invariant-loop-count : goal.invariant-loop-count
invariant-loop-count l = l.made ≡ some_below l.count (is_alias_made_at l.evidence l.from l.told l.target)
