use Rattle.std.proofs.Common.{◌≡◌, false, take}
use Rattle.trace_judge.specs.Index.{any_late}
use Rattle.trace_judge.specs.MadeIndex.{gap_makes}
use Rattle.trace_judge.proofs.gap.any_makes.Given as goal

-- none so far says so
abbrev pub invariant-loop-r : goal.invariant-loop-r
invariant-loop-r l = any_late l.from (gap_makes l.dns_class l.gap) (take l.r-index l.received) ≡ false
