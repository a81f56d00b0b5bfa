use Rattle.std.proofs.Common.{◌≡◌, ◌++◌, drop, map}
use Rattle.hickory_resolver_attempts.proofs.search.push_last.Given as goal

abbrev pub invariant-loop-name : goal.invariant-loop-name
invariant-loop-name l = l.names.items ++ map (λ n. n.now) (drop l.name-index l.name-items)
    ≡ l.initial.names.items ++ map (λ n. n.now) l.name-items
