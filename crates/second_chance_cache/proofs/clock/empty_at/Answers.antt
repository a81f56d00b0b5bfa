use Rattle.std.proofs.Common.{◌≡◌, ◌<◌, ◌≤◌, length, refl, ◌∙◌, ap, arith}
use Rattle.std.specs.Prelude.{Option}
use Rattle.std.specs.Option.{option_map_or}
use Rattle.second_chance_cache.specs.SecondChance.{Entry}
use Rattle.second_chance_cache.proofs.Slots.{beyond, emptied-beyond, emptied-set, weight-beyond, weight-set}
use Rattle.second_chance_cache.proofs.clock.empty_at.Goals as goal

pub returns-in-Some-clause-weight : goal.returns-in-Some-clause-weight
returns-in-Some-clause-weight g c =
    let slots = c.args.slots.now in
    let counted : slots.len ≡ length slots.items = slots.ok.0 in
    let below : c.args.place < slots.len = c.in-Some.ensures.variant.0 refl in
    c.weight_of.ensures
    ∙ ap (λ (o : Option (Entry g.row.V.Denot)). option_map_or (λ e. e.weight) o 0) c.take.ensures.value
    ∙ weight-set c.args.place slots.items c.in-Some.slot.now (omega arith) c.in-Some.ensures.value

pub returns-in-Some-clause-items : goal.returns-in-Some-clause-items
returns-in-Some-clause-items g c =
    let slots = c.args.slots.now in
    let counted : slots.len ≡ length slots.items = slots.ok.0 in
    let below : c.args.place < slots.len = c.in-Some.ensures.variant.0 refl in
    rw c.take.ensures.after (emptied-set c.args.place slots.items (omega arith))

pub returns-in-None-clause-weight : goal.returns-in-None-clause-weight
returns-in-None-clause-weight g c =
    let slots = c.args.slots.now in
    let counted : slots.len ≡ length slots.items = slots.ok.0 in
    let far : slots.len ≤ c.args.place = beyond c.args.place slots.len c.in-None.ensures.variant.1 in
    weight-beyond c.args.place slots.items (omega arith)

pub returns-in-None-clause-items : goal.returns-in-None-clause-items
returns-in-None-clause-items g c =
    let slots = c.args.slots.now in
    let counted : slots.len ≡ length slots.items = slots.ok.0 in
    let far : slots.len ≤ c.args.place = beyond c.args.place slots.len c.in-None.ensures.variant.1 in
    emptied-beyond c.args.place slots.items (omega arith)
