use Rattle.std.proofs.Common.{◌≡◌, ◌++◌, map, take}
use Rattle.trace_judge.specs.Traces.{judged_at}
use Rattle.trace_judge.proofs.trace.note.Given as goal

abbrev pub invariant-loop-finding : goal.invariant-loop-finding
invariant-loop-finding l = l.judged.items ≡ l.initial.judged.items ++ map (judged_at l.event) (take l.finding-index l.found)
