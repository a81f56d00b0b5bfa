use Rattle.std.proofs.Common.{List, ℕ, subst}
use Rattle.second_chance_cache.specs.Clock.{IsForgotten, number_in}
use Rattle.second_chance_cache.proofs.Sound.{sound-dropped}
use Rattle.second_chance_cache.proofs.clock.Clock.let_go.Goals as goal

pub returns-clause-sound : goal.returns-clause-sound
returns-clause-sound g c =
    let s = c.args.self.now in
    let e = c.args.kept.now in
    let change : IsForgotten e.key s.index c.forget.new.index =
    subst (λ (k : List ℕ). IsForgotten k s.index c.forget.new.index) c.key.ensures c.forget.ensures.numbers in
    rw c.weight.ensures
    (sound-dropped (λ k. number_in k s.index) s.first s.count s.octets (λ k. number_in k c.forget.new.index) e
    s.slots.items c.requires change)
