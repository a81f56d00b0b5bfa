use Rattle.std.proofs.Common.{◌≡◌, ◌+◌, ◌%◌, ◌^◌, ℕ, List, length, ◌∙◌, subst}
use Rattle.second_chance_cache.specs.Clock.{IsRenumbered, number_at, number_in}
use Rattle.second_chance_cache.proofs.Sound.{sound-turned}
use Rattle.second_chance_cache.proofs.clock.Clock.put_back.Goals as goal

pub returns-clause-sound : goal.returns-clause-sound
returns-clause-sound g c =
    let s = c.args.self.now in
    let e = c.args.kept in
    let new : ℕ = (s.first + 1) % 2 ^ 64 in
    let counted : c.len.result ≡ length s.slots.items = c.len.ensures ∙ s.slots.ok.0 in
    let change : IsRenumbered e.key (number_at new (length s.slots.items)) s.index c.renumber.new.index =
    subst (λ (n : ℕ). IsRenumbered e.key (number_at new n) s.index c.renumber.new.index) counted
    (subst (λ (k : List ℕ). IsRenumbered k (number_at new c.len.result) s.index c.renumber.new.index) c.key.ensures
    c.renumber.ensures.numbers) in
    rw c.push_back_reserved.ensures.items
    (sound-turned (λ k. number_in k s.index) s.first s.count s.octets (λ k. number_in k c.renumber.new.index) e
    s.slots.items c.requires.sound change)
