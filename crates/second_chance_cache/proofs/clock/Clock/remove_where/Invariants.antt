use Rattle.std.specs.Fn.{FnReturnsAt}
use Rattle.second_chance_cache.specs.Clock.{IsSound}
use Rattle.second_chance_cache.proofs.Sieves.{Sieving}
use Rattle.second_chance_cache.proofs.clock.Clock.remove_where.Given as goal

abbrev pub invariant-loop-unseen : goal.invariant-loop-unseen
invariant-loop-unseen g l = record {
  sound : IsSound l.self;
  sieving : Sieving (FnReturnsAt g.F.Fn l.is_gone) l.initial.self.slots.items l.self.slots.items l.unseen;
}

abbrev pub decreases-loop-unseen : goal.decreases-loop-unseen
decreases-loop-unseen g l = l.unseen
