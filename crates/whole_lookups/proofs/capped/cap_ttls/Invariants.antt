use Rattle.std.proofs.Common.{◌≡◌, ◌++◌, map, take, drop}
use Rattle.hickory_resolver_model.specs.Verdict.{with_ttl_at_most}
use Rattle.whole_lookups.proofs.capped.cap_ttls.Given as goal

abbrev pub invariant-loop-found : goal.invariant-loop-found
invariant-loop-found l =
    l.found-items ≡ map (with_ttl_at_most l.greatest) (take l.found-index l.initial.found-items)
    ++ drop l.found-index l.initial.found-items
