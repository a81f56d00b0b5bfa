use Rattle.std.proofs.Common.{◌≡◌, ℕ, List, [], ◌∷◌, length, ◌∙◌, subst}
use Rattle.std.specs.Prelude.{Some}
use Rattle.second_chance_cache.specs.Clock.{IsNumbered, number_at, number_in}
use Rattle.second_chance_cache.proofs.Slots.{live-append}
use Rattle.second_chance_cache.proofs.Sound.{sound-pushed}
use Rattle.second_chance_cache.proofs.clock.Clock.push.Goals as goal

pub returns : goal.returns
returns g c =
    let s = c.args.self.now in
    let e = c.args.kept in
    let counted : c.len.result ≡ length s.slots.items = c.len.ensures ∙ s.slots.ok.0 in
    let change : IsNumbered e.key (number_at s.first (length s.slots.items)) s.index c.number_key.new.index =
    subst (λ (n : ℕ). IsNumbered e.key (number_at s.first n) s.index c.number_key.new.index) counted
    (subst (λ (k : List ℕ). IsNumbered k (number_at s.first c.len.result) s.index c.number_key.new.index) c.requires.key
    c.number_key.ensures) in
    record {
      sound = rw (c.push_back_reserved.ensures.items, c.weight.ensures)
          (sound-pushed (λ k. number_in k s.index) s.first s.count s.octets (λ k. number_in k c.number_key.new.index) e
          s.slots.items c.requires.sound c.requires.new change);
      entries = rw c.push_back_reserved.ensures.items (live-append s.slots.items (Some e ∷ []));
    }
