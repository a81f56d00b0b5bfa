use Rattle.std.proofs.Common.{map, drop}
use Rattle.hickory_resolver_attempts.proofs.LastPlaces.{KeepsLast}
use Rattle.hickory_resolver_attempts.proofs.search.last_places.Given as goal

abbrev pub invariant-loop-i : goal.invariant-loop-i
invariant-loop-i l = KeepsLast (drop l.i l.found) (map (λ n. n.now) l.kept.items) (map (λ n. n.now) l.seen.keys)
