use Rattle.std.proofs.Common.{◌≡◌, ◌++◌, map, take, drop}
use Rattle.hickory_resolver_model.specs.Cache.{aged_forward}
use Rattle.hickory_resolver_cache.proofs.aging.age_forwards.Given as goal

abbrev pub invariant-loop-older : goal.invariant-loop-older
invariant-loop-older l = l.older-items ≡ map (aged_forward l.seconds) (take l.older-index l.initial.older-items) ++ drop l.older-index l.initial.older-items
