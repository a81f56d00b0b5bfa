use Rattle.std.proofs.Common.{◌≡◌, ◌<◌, ◌≤◌, length, refl, arith}
use Rattle.second_chance_cache.proofs.Slots.{beyond, marked-beyond, marked-set}
use Rattle.second_chance_cache.proofs.clock.mark_at.Goals as goal

pub returns-in-Some : goal.returns-in-Some
returns-in-Some g c =
    let slots = c.args.slots.now in
    let counted : slots.len ≡ length slots.items = slots.ok.0 in
    let below : c.args.place < slots.len = c.in-Some.ensures.variant.0 refl in
    rw c.mark_slot.ensures
    (marked-set c.args.place c.args.now slots.items c.in-Some.slot.now (omega arith) c.in-Some.ensures.value)

pub returns-in-None : goal.returns-in-None
returns-in-None g c =
    let slots = c.args.slots.now in
    let counted : slots.len ≡ length slots.items = slots.ok.0 in
    let far : slots.len ≤ c.args.place = beyond c.args.place slots.len c.in-None.ensures.variant.1 in
    marked-beyond c.args.place c.args.now slots.items (omega arith)
