use Rattle.std.proofs.Common.{◌≡◌, ◌++◌, List, drop}
use Rattle.trace_judge.specs.Judging.{Keeps}
use Rattle.trace_judge.specs.Traces.{findings_from, findings_in}
use Rattle.trace_judge.specs.declared.event.Event.{Event}
use Rattle.trace_judge.proofs.trace.judge.Given as goal

-- the judge has heard the lines so far, and what is found in them and in the rest is what is found in all
abbrev pub invariant-loop-i : goal.invariant-loop-i
invariant-loop-i l =
    (past : List Event) × Keeps l.fn.options past l.judge
    × (l.judged.items ++ findings_from l.fn.options past l.i (drop l.i l.trace) ≡ findings_in l.fn.options l.trace)
