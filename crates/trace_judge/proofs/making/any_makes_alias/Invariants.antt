use Rattle.std.proofs.Common.{◌≡◌, false, take}
use Rattle.trace_judge.specs.Index.{any_late}
use Rattle.trace_judge.specs.Making.{makes_alias}
use Rattle.trace_judge.proofs.making.any_makes_alias.Given as goal

-- none so far makes it
abbrev pub invariant-loop-r : goal.invariant-loop-r
invariant-loop-r l = any_late l.from (makes_alias l.told l.target l.count) (take l.r-index l.received) ≡ false
