use Rattle.std.proofs.Common.{List, Option, subst}
use Rattle.hickory_resolver_theorems.specs.ResumingCalls.{WaitingCallValue}
use Rattle.hickory_resolver_events.specs.Playing.{Plays}
use Rattle.hickory_resolver_events.proofs.PlayedEvents.{is_played}
use Rattle.hickory_resolver_events.proofs.events.play.Goals as goal

pub returns-clause-played : goal.returns-clause-played
returns-clause-played g c =
    let after = c.take_each.new in
    let P : List (Option WaitingCallValue) → Type 0 = λ waiting. Plays c.args.events.items c.args.resolver.now waiting after.replies.items after.resolver after.waiting.items in
    is_played c.args.resolver.now c.args.events.items after.replies.items after.resolver after.waiting.items (subst P c.in_ok-waiting.ensures.items c.take_each.ensures)
