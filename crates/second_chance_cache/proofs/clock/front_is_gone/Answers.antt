use Rattle.std.proofs.Common.{◌≡◌, ◌<◌, ◌≤◌, length, refl, arith}
use Rattle.second_chance_cache.proofs.Sieves.{front-none, front-some}
use Rattle.second_chance_cache.proofs.Slots.{beyond}
use Rattle.second_chance_cache.proofs.clock.front_is_gone.Goals as goal

pub returns-in-Some : goal.returns-in-Some
returns-in-Some g c =
    let slots = c.args.slots.now in
    let counted : slots.len ≡ length slots.items = slots.ok.0 in
    let some : 0 < slots.len = c.in-Some.ensures.variant.0 refl in
    front-some _ slots.items c.in-Some.slot.now c.slot_is_gone.result (omega arith) c.in-Some.ensures.lookup
    c.slot_is_gone.ensures

pub returns-in-None : goal.returns-in-None
returns-in-None g c =
    let slots = c.args.slots.now in
    let counted : slots.len ≡ length slots.items = slots.ok.0 in
    let none : slots.len ≤ 0 = beyond 0 slots.len c.in-None.ensures.variant.1 in
    front-none _ slots.items (omega arith)
