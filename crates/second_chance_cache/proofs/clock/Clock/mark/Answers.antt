use Rattle.std.proofs.Common.{◌∙◌, sym}
use Rattle.second_chance_cache.specs.Clock.{live, number_in}
use Rattle.second_chance_cache.proofs.Keys.{asked-absent}
use Rattle.second_chance_cache.proofs.Slots.{has-no_place, live-marked, place-marked}
use Rattle.second_chance_cache.proofs.Sound.{sound-marked}
use Rattle.second_chance_cache.proofs.clock.Clock.mark.Goals as goal

pub returns-in-Some : goal.returns-in-Some
returns-in-Some g c =
    let s = c.args.self.now in
    let key = c.args.key.now in
    let found = sym c.in-Some.ensures in
    record {
      sound = rw c.mark_at.ensures
          (sound-marked (λ k. number_in k s.index) s.first s.count s.octets key c.args.now c.in-Some.place s.slots.items
          c.requires found);
      entries = rw c.mark_at.ensures
          (live-marked key c.args.now s.slots.items c.in-Some.place c.requires.apart found);
      place = rw c.mark_at.ensures
          (sym found ∙ sym (place-marked key c.args.now c.in-Some.place s.slots.items));
    }

pub returns-in-None-clause-entries : goal.returns-in-None-clause-entries
returns-in-None-clause-entries g c =
    let s = c.args.self.now in
    let key = c.args.key.now in
    sym (asked-absent key c.args.now (live s.slots.items) (has-no_place key s.slots.items (sym c.in-None.ensures)))
