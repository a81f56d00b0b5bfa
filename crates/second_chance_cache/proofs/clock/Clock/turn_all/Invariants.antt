use Rattle.std.proofs.Common.{◌≡◌}
use Rattle.second_chance_cache.specs.Clock.{IsSound, KeepsRoom, live}
use Rattle.second_chance_cache.proofs.Sweeps.{turns}
use Rattle.second_chance_cache.proofs.clock.Clock.turn_all.Given as goal

abbrev pub invariant-loop-left : goal.invariant-loop-left
invariant-loop-left g l = record {
  sound : IsSound l.self;
  room : KeepsRoom l.initial.self l.self;
  entries : live (turns l.left l.self.slots.items) ≡ live l.initial.self.slots.items;
}

abbrev pub decreases-loop-left : goal.decreases-loop-left
decreases-loop-left g l = l.left
