use Rattle.std.proofs.Common.{◌≡◌, List, true, false, sym, ◌∙◌, ap}
use Rattle.std.specs.Prelude.{Option}
use Rattle.second_chance_cache.specs.SecondChance.{Entry, has_room, make_room}
use Rattle.second_chance_cache.specs.Clock.{live}
use Rattle.second_chance_cache.proofs.Rounds.{make_room-looked, make_room-room, some-slots, work-looked}
use Rattle.second_chance_cache.proofs.Sound.{keeps-both}
use Rattle.second_chance_cache.proofs.clock.Clock.make_room.Goals as goal

pub loop-self-smaller : goal.loop-self-smaller
loop-self-smaller g c =
    let b = c.args.bounds.now in
    let s = c.loop-self.self.slots.items in
    let full : has_room b c.args.weight (live s) ≡ false = sym c.has_room.ensures.value ∙ c.loop-self-test.true in
    rw c.look.ensures.slots (work-looked c.args.now s (some-slots b c.args.weight c.args.now c.requires.kept s full))

pub loop-self-preserved : goal.loop-self-preserved
loop-self-preserved g c =
    let b = c.args.bounds.now in
    let s = c.loop-self.self.slots.items in
    let full : has_room b c.args.weight (live s) ≡ false = sym c.has_room.ensures.value ∙ c.loop-self-test.true in
    record {
      sound = c.look.ensures.sound;
      room = keeps-both c.args.self.now c.loop-self.self c.look.new.self c.loop-self.invariant.room c.look.ensures.room;
      entries = ap (λ (l : List (Option (Entry g.row.V.Denot))). make_room b c.args.weight c.args.now
          (live l)) c.look.ensures.slots
          ∙ make_room-looked b c.args.weight c.args.now s full
          ∙ c.loop-self.invariant.entries;
    }

pub returns-clause-entries : goal.returns-clause-entries
returns-clause-entries g c =
    let b = c.args.bounds.now in
    let s = c.loop-self.self.slots.items in
    let free : has_room b c.args.weight (live s) ≡ true = sym c.has_room.ensures.value ∙ c.loop-self-test.false in
    sym (make_room-room b c.args.weight c.args.now (live s) free) ∙ c.loop-self.invariant.entries
