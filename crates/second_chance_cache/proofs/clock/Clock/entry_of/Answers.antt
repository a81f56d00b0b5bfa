use Rattle.std.proofs.Common.{◌∙◌, sym}
use Rattle.second_chance_cache.specs.Clock.{live}
use Rattle.second_chance_cache.proofs.Keys.{find-absent}
use Rattle.second_chance_cache.proofs.Slots.{found-at, has-no_place}
use Rattle.second_chance_cache.proofs.clock.Clock.entry_of.Goals as goal

pub returns-in-Some : goal.returns-in-Some
returns-in-Some g c = λ key is.
    c.entry_at.ensures ∙ found-at key c.args.self.now.slots.items c.in-Some.place (sym is ∙ c.in-Some.is)

pub returns-in-None : goal.returns-in-None
returns-in-None g c = λ key is.
    let slots = c.args.self.now.slots.items in
    sym (find-absent key (live slots) (has-no_place key slots (sym is ∙ c.in-None.is)))
