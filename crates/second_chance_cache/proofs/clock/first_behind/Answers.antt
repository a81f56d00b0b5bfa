-- The first slot behind that has an entry.
use Rattle.std.proofs.Common.{◌≡◌, ◌+◌, ℕ, suc, List, ◌∙◌, ap, arith, drop, sym}
use Rattle.std.specs.Prelude.{slice_get}
use Rattle.second_chance_cache.specs.SecondChance.{Entry}
use Rattle.second_chance_cache.specs.Clock.{live}
use Rattle.second_chance_cache.proofs.Going.{live-past, live-there}
use Rattle.second_chance_cache.proofs.clock.first_behind.Goals as goal

pub returns-in-Some : goal.returns-in-Some
returns-in-Some g c =
    sym (live-there c.args.slots.now.items (c.loop-place.place + 1) c.in-Some.kept.now (sym c.in-Some.ensures))
    ∙ ap (λ (l : List (Entry g.row.V.Denot)). slice_get l 0) c.loop-place.invariant

pub loop-place-preserved : goal.loop-place-preserved
loop-place-preserved g c =
    let slots = c.args.slots.now.items in
    let at = c.loop-place.place + 1 in
    let next : at + 1 ≡ suc at = omega arith in
    ap (λ (n : ℕ). live (drop n slots)) next
    ∙ live-past slots at (sym c.in-None.ensures) ∙ c.loop-place.invariant
