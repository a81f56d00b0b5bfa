use Rattle.std.proofs.Common.{◌≤◌, ◌+◌, length, vec_capacity, vec_len}
use Rattle.hickory_resolver_events.proofs.PlayedEvents.{LeadsOn}
use Rattle.hickory_resolver_events.proofs.events.take_each.Given as goal

abbrev pub invariant-loop-event : goal.invariant-loop-event
invariant-loop-event g l =
    LeadsOn l.fn.events.items l.fn.resolver l.fn.waiting.items l.event-iterator.rest.items l.resolver l.waiting.items l.replies.items
    × (vec_len l.waiting + length l.event-iterator.rest.items ≤ vec_capacity l.waiting)
    × (vec_len l.replies + length l.event-iterator.rest.items ≤ vec_capacity l.replies)
