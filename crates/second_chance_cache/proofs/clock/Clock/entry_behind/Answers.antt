-- Those behind the slot of a key are those behind its entry.
use Rattle.std.proofs.Common.{◌≡◌, ◌+◌, ℕ, suc, List, ◌∙◌, ap, arith, drop, sym}
use Rattle.std.specs.Prelude.{slice_get, None, Some}
use Rattle.second_chance_cache.specs.SecondChance.{Entry}
use Rattle.second_chance_cache.specs.Clock.{live, place_of}
use Rattle.second_chance_cache.proofs.Going.{live-behind, none-behind}
use Rattle.second_chance_cache.proofs.clock.Clock.entry_behind.Goals as goal

pub returns-in-Some : goal.returns-in-Some
returns-in-Some g c =
    let slots = c.args.self.now.slots.items in
    let there : place_of c.args.key.now slots ≡ Some c.in-Some.place = sym c.in-Some.ensures in
    let next : c.in-Some.place + 1 ≡ suc c.in-Some.place = omega arith in
    c.first_behind.ensures
    ∙ ap (λ (l : List (Entry g.row.V.Denot)). slice_get l 0)
    (ap (λ (n : ℕ). live (drop n slots)) next
    ∙ live-behind c.args.key.now slots c.in-Some.place there)

pub returns-in-None : goal.returns-in-None
returns-in-None g c =
    let slots = c.args.self.now.slots.items in
    let absent : place_of c.args.key.now slots ≡ None = sym c.in-None.ensures in
    sym (ap (λ (l : List (Entry g.row.V.Denot)). slice_get l 0) (none-behind c.args.key.now slots absent))
