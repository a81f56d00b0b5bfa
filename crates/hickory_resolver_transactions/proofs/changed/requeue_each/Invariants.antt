use Rattle.std.proofs.Common.{◌≡◌, ◌++◌, map, take, drop}
use Rattle.hickory_resolver_transactions.specs.Candidates.{requeued}
use Rattle.hickory_resolver_transactions.proofs.changed.requeue_each.Given as goal

abbrev pub invariant-loop-one : goal.invariant-loop-one
invariant-loop-one l =
    take l.one-index l.candidates ++ map requeued (drop l.one-index l.candidates) ≡ map requeued l.fn.candidates
