use Rattle.std.proofs.Common.{arith}
use Rattle.second_chance_cache.specs.Clock.{number_in}
use Rattle.second_chance_cache.proofs.Slots.{length-emptied, live-emptied, weight-emptied}
use Rattle.second_chance_cache.proofs.Sound.{sound-emptied}
use Rattle.second_chance_cache.proofs.clock.Clock.empty_place.Goals as goal

pub overflow_sub-self : goal.overflow_sub-self
overflow_sub-self g c =
    let s = c.args.self.now in
    omega (arith, c.requires.sound.count, length-emptied c.args.key.now s.slots.items c.args.place c.requires.place)

pub overflow_sub-self-2 : goal.overflow_sub-self-2
overflow_sub-self-2 g c =
    let s = c.args.self.now in
    omega (
      arith,
      c.requires.sound.octets,
      c.empty_at-weight.ensures.weight,
      weight-emptied c.args.key.now s.slots.items c.args.place c.requires.place,
    )

pub returns : goal.returns
returns g c =
    let s = c.args.self.now in
    let key = c.args.key.now in
    let at = c.args.place in
    record {
      sound = rw (c.empty_at-weight.ensures.items, c.empty_at-weight.ensures.weight)
          (sound-emptied (λ k. number_in k s.index) s.first s.count s.octets
          (λ k. number_in k c.forget.new.index) key at
          s.slots.items c.requires.sound c.requires.place c.forget.ensures.numbers);
      room = record {
        len = omega (arith, c.empty_at-weight.ensures.len);
        slots = c.empty_at-weight.ensures.capacity;
        index = c.forget.ensures.room;
      };
      entries = rw c.empty_at-weight.ensures.items
          (live-emptied key s.slots.items at c.requires.sound.apart c.requires.place);
    }
