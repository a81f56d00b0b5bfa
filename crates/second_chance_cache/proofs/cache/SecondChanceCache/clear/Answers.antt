use Rattle.std.proofs.Common.{List, sym, ap, subst}
use Rattle.second_chance_cache.specs.SecondChance.{CacheValue, Entry, IsCache}
use Rattle.second_chance_cache.proofs.Bounded.{within-nothing}
use Rattle.second_chance_cache.proofs.cache.SecondChanceCache.clear.Goals as goal

pub returns : goal.returns
returns g c =
    let b = c.self.inside.bounds in
    let f : List (Entry g.row.V.Denot) → CacheValue g.row.V.Denot = λ es. record { bounds = b; entries = es } in
    rw (← c.self.view_is) (ap f c.clear.ensures.empty)

pub invariant_of-self : goal.invariant_of-self
invariant_of-self g c =
    let b = c.self.inside.bounds in
    record {
      sound = c.clear.ensures.sound;
      within = subst (λ (es : List (Entry g.row.V.Denot)). IsCache (record { bounds = b; entries = es }))
          (sym c.clear.ensures.empty) (within-nothing b);
    }
