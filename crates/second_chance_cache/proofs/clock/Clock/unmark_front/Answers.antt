use Rattle.std.proofs.Common.{arith}
use Rattle.second_chance_cache.specs.Clock.{number_in}
use Rattle.second_chance_cache.proofs.Sound.{sound-front}
use Rattle.second_chance_cache.proofs.clock.Clock.unmark_front.Goals as goal

pub returns : goal.returns
returns g c =
    let s = c.args.self.now in
    record {
      sound = rw c.unmark_front.ensures.items
          (sound-front (λ k. number_in k s.index) s.first s.count s.octets s.slots.items c.requires);
      room = record {
        len = omega (arith, c.unmark_front.ensures.len);
        slots = c.unmark_front.ensures.capacity;
        index = omega arith;
      };
      slots = c.unmark_front.ensures.items;
    }
