use Rattle.std.proofs.Common.{ℕ, List, ◌++◌, map, take}
use Rattle.trace_judge.specs.Index.{GapsSee}
use Rattle.trace_judge.specs.Receptions.{reception_at}
use Rattle.trace_judge.specs.declared.receptions.Reception.{Reception}
use Rattle.trace_judge.proofs.hearing.keep_gaps_in.Given as goal

-- the records so far were received
abbrev pub invariant-loop-r : goal.invariant-loop-r
invariant-loop-r l = (from : ℕ) (before : List Reception) → GapsSee from l.initial.gaps before
    → GapsSee from l.gaps (before ++ map (reception_at l.moment) (take l.r-index l.records))
