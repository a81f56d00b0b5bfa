use Rattle.std.proofs.Common.{sym}
use Rattle.second_chance_cache.specs.Clock.{live}
use Rattle.second_chance_cache.proofs.Keys.{without-absent}
use Rattle.second_chance_cache.proofs.Slots.{has-no_place}
use Rattle.second_chance_cache.proofs.clock.Clock.empty_slot.Goals as goal

pub returns-in-None-clause-entries : goal.returns-in-None-clause-entries
returns-in-None-clause-entries g c =
    let s = c.args.self.now in
    let key = c.args.key.now in
    sym (without-absent key (live s.slots.items) (has-no_place key s.slots.items (sym c.in-None.ensures)))
