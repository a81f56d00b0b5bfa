use Rattle.std.proofs.Common.{◌≡◌, ◌<◌, ◌≤◌, length, refl, arith}
use Rattle.second_chance_cache.proofs.Slots.{beyond, unmarked-beyond, unmarked-set}
use Rattle.second_chance_cache.proofs.clock.unmark_front.Goals as goal

pub returns-in-Some-clause-items : goal.returns-in-Some-clause-items
returns-in-Some-clause-items g c =
    let slots = c.args.slots.now in
    let counted : slots.len ≡ length slots.items = slots.ok.0 in
    let below : 0 < slots.len = c.in-Some.ensures.variant.0 refl in
    rw c.unmark_slot.ensures (unmarked-set slots.items c.in-Some.slot.now (omega arith) c.in-Some.ensures.value)

pub returns-in-None-clause-items : goal.returns-in-None-clause-items
returns-in-None-clause-items g c =
    let slots = c.args.slots.now in
    let counted : slots.len ≡ length slots.items = slots.ok.0 in
    let far : slots.len ≤ 0 = beyond 0 slots.len c.in-None.ensures.variant.1 in
    unmarked-beyond slots.items (omega arith)
