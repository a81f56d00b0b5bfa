use Rattle.std.proofs.Common.{◌≡◌, drop}
use Rattle.hickory_resolver_tries.proofs.Chains.{ends_from, so_far}
use Rattle.hickory_resolver_tries.proofs.chain.end_from.Given as goal

abbrev pub invariant-loop-found : goal.invariant-loop-found
invariant-loop-found l = so_far l.moved (ends_from l.reached (drop l.found-index l.answers)) ≡ ends_from l.name l.answers
