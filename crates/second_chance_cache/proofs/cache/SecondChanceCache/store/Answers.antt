use Rattle.std.proofs.Common.{List, sym, subst}
use Rattle.second_chance_cache.specs.SecondChance.{Entry, IsCache}
use Rattle.second_chance_cache.specs.Clock.{live}
use Rattle.second_chance_cache.proofs.Bounded.{within-without}
use Rattle.second_chance_cache.proofs.cache.SecondChanceCache.store.Goals as goal

pub invariant_of-self : goal.invariant_of-self
invariant_of-self g c =
    let b = c.self.inside.bounds in
    record {
      sound = c.take_out.ensures.sound;
      within = subst (λ (es : List (Entry g.row.V.Denot)). IsCache (record { bounds = b; entries = es }))
          (sym c.take_out.ensures.entries)
          (within-without b c.args.key.now (live c.self.inside.clock.slots.items) c.self.invariant.within);
    }
