use Rattle.std.proofs.Common.{ℕ, Bool, List, refl, arith}
use Rattle.std.specs.Fn.{FnReturnsAt}
use Rattle.second_chance_cache.specs.Clock.{live}
use Rattle.second_chance_cache.proofs.Sieves.{left-length, left-weight}
use Rattle.second_chance_cache.proofs.cache.SecondChanceCache.remove_where.Goals as goal

pub returns : goal.returns
returns g c = rw (← c.self.view_is) (record { left = c.remove_where.ensures.left; bounds = refl })

pub invariant_of-self : goal.invariant_of-self
invariant_of-self g c =
    let old = live c.self.inside.clock.slots.items in
    let new = live c.remove_where.new.self.slots.items in
    let few = left-length
    (FnReturnsAt {F = g.row.F.Denot} {T = List ℕ} {R = Bool} g.F.Fn c.args.is_gone) old new c.remove_where.ensures.left in
    let light = left-weight
    (FnReturnsAt {F = g.row.F.Denot} {T = List ℕ} {R = Bool} g.F.Fn c.args.is_gone) old new c.remove_where.ensures.left in
    record {
      sound = c.remove_where.ensures.sound;
      within = record {
        count = omega (arith, few, c.self.invariant.within.count);
        octets = omega (arith, light, c.self.invariant.within.octets);
        apart = c.remove_where.ensures.sound.apart;
      };
    }
