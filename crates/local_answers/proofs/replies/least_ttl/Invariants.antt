use Rattle.std.proofs.Common.{◌≡◌, take, map, fold, min}
use Rattle.local_answers.proofs.replies.least_ttl.Given as goal

abbrev pub invariant-loop-other : goal.invariant-loop-other
invariant-loop-other l = l.least ≡ fold min l.initial.least (map (λ r. r.ttl) (take l.other-index l.others))
