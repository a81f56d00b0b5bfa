use Rattle.std.proofs.Common.{List, refl, sym, ◌∙◌, ap, subst}
use Rattle.second_chance_cache.specs.SecondChance.{CacheValue, Entry, IsCache, told}
use Rattle.second_chance_cache.specs.Clock.{live}
use Rattle.second_chance_cache.proofs.Bounded.{within-asked}
use Rattle.second_chance_cache.proofs.Keys.{told-asked}
use Rattle.second_chance_cache.proofs.cache.SecondChanceCache.get.Goals as goal

pub returns : goal.returns
returns g c =
    let b = c.self.inside.bounds in
    let es = live c.self.inside.clock.slots.items in
    let f : List (Entry g.row.V.Denot) → CacheValue g.row.V.Denot = λ fs. record { bounds = b; entries = fs } in
    rw (← c.self.view_is) (
      (refl, λ _. tt, ap f c.mark-place.ensures.entries),
      record {
        marks = tt;
        told = c.told_at.ensures c.args.key.now c.mark-place.ensures.place
            ∙ ap (λ (fs : List (Entry g.row.V.Denot)). told c.args.key.now c.args.now fs) c.mark-place.ensures.entries
            ∙ told-asked c.args.key.now c.args.now es;
      },
    )

pub invariant_of-self : goal.invariant_of-self
invariant_of-self g c =
    let b = c.self.inside.bounds in
    record {
      sound = c.mark-place.ensures.sound;
      within = subst (λ (es : List (Entry g.row.V.Denot)). IsCache (record { bounds = b; entries = es }))
          (sym c.mark-place.ensures.entries)
          (within-asked b c.args.key.now c.args.now (live c.self.inside.clock.slots.items) c.self.invariant.within);
    }
