use Rattle.std.proofs.Common.{List, sym, ap, subst}
use Rattle.second_chance_cache.specs.SecondChance.{CacheValue, Entry, IsCache}
use Rattle.second_chance_cache.proofs.Bounded.{within-nothing}
use Rattle.second_chance_cache.proofs.cache.SecondChanceCache.with_hasher.Goals as goal

pub returns : goal.returns
returns g c =
    let f : List (Entry g.row.V.Denot) → CacheValue g.row.V.Denot =
    λ es. record { bounds = c.args.bounds; entries = es } in
    ap f c.new.ensures.empty

pub invariant_of-result : goal.invariant_of-result
invariant_of-result g c = record {
  sound = c.new.ensures.sound;
  within = subst (λ (es : List (Entry g.row.V.Denot)). IsCache (record { bounds = c.args.bounds; entries = es }))
      (sym c.new.ensures.empty) (within-nothing c.args.bounds);
}
