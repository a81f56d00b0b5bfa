use Rattle.std.proofs.Common.{◌≡◌, fold, take}
use Rattle.trace_judge.specs.Denials.{follow}
use Rattle.trace_judge.proofs.denials.last_name.Given as goal

abbrev pub invariant-loop-r : goal.invariant-loop-r
invariant-loop-r l = l.name ≡ fold (follow l.query.query_class) l.query.name (take l.r-index l.answers)
