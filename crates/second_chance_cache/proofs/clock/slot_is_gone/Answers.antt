use Rattle.second_chance_cache.proofs.clock.slot_is_gone.Goals as goal

pub returns-in-Some : goal.returns-in-Some
returns-in-Some g c =
    rw c.in-Some.is
    (record { shown = c.key.result; shows = c.key.ensures; says = record { met = c.is_gone.ensures } })
