use Rattle.std.proofs.Common.{◌≡◌}
use Rattle.second_chance_cache.specs.SecondChance.{make_room}
use Rattle.second_chance_cache.specs.Clock.{IsSound, KeepsRoom, live}
use Rattle.second_chance_cache.proofs.Rounds.{work}
use Rattle.second_chance_cache.proofs.clock.Clock.make_room.Given as goal

abbrev pub invariant-loop-self : goal.invariant-loop-self
invariant-loop-self g l = record {
  sound : IsSound l.self;
  room : KeepsRoom l.initial.self l.self;
  entries : make_room l.bounds l.weight l.now (live l.self.slots.items)
      ≡ make_room l.bounds l.weight l.now (live l.initial.self.slots.items);
}

abbrev pub decreases-loop-self : goal.decreases-loop-self
decreases-loop-self g l = work l.self.slots.items
