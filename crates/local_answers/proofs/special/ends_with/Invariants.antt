use Rattle.std.proofs.Common.{◌≡◌, drop, ◌+◌}
use Rattle.std.specs.Cmp.Lexicographic.{pointwise}
use Rattle.local_answers.proofs.Endings.{same_label}
use Rattle.local_answers.proofs.special.ends_with.Given as goal

abbrev pub invariant-loop-i : goal.invariant-loop-i
invariant-loop-i l = pointwise same_label (drop l.i l.zone) (drop (l.above + l.i) l.labels)
    ≡ pointwise same_label l.zone (drop l.above l.labels)
