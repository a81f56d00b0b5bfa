use Rattle.std.proofs.Common.{◌≡◌, [], List, length, ap, sym, subst, arith}
use Rattle.std.proofs.lemmas.Grind.{common_steps}
use Rattle.hickory_resolver_events.specs.declared.events.Event.{Event}
use Rattle.hickory_resolver_events.specs.declared.events.EventReply.{EventReply}
use Rattle.hickory_resolver_events.proofs.PlayedEvents.{LeadsOn, leads-next, leads-all}
use Rattle.hickory_resolver_events.proofs.events.take_each.Goals as goal

pub loop-event-preserved : goal.loop-event-preserved
loop-event-preserved g c =
    let all = c.args.events.items in
    let first = c.args.resolver.now in
    let none = c.args.waiting.now.items in
    let before = c.loop-event in
    let after = c.take-reply.new in
    let left = c.next.new.self.rest.items in
    let rest_is = c.in-Some.ensures.steps.0 in
    let R : List Event → Type 0 = λ rest. LeadsOn all first none rest before.resolver before.waiting.items before.replies.items in
    let P : List EventReply → Type 0 = λ replies. LeadsOn all first none left after.resolver after.waiting.items replies in (
      subst P (sym c.push_reserved.ensures.items)
          (leads-next all first none c.in-Some.event left before.resolver before.waiting.items before.replies.items (subst R rest_is before.invariant.0) c.take-reply.result after.resolver after.waiting.items c.take-reply.ensures.takes),
      omega (arith, before.invariant.1, ap length rest_is, c.take-reply.ensures.len, c.take-reply.ensures.room),
      omega (arith, before.invariant.2, ap length rest_is, c.push_reserved.ensures.len, c.push_reserved.ensures.capacity),
    )

pub returns : goal.returns
returns g c =
    let all = c.args.events.items in
    let first = c.args.resolver.now in
    let none = c.args.waiting.now.items in
    let before = c.loop-event in
    let R : List Event → Type 0 = λ rest. LeadsOn all first none rest before.resolver before.waiting.items before.replies.items in
    let over : before.event-iterator.rest.items ≡ [] = grind (arith, common_steps) in
    leads-all all first none before.resolver before.waiting.items before.replies.items (subst R over before.invariant.0)
