use Rattle.std.proofs.Common.{◌∙◌, Bool, None, Some, ap}
use Rattle.conversation.proofs.Held.{reply_found}
use Rattle.conversation.proofs.state.has_reply.Goals as goal

pub returns-in-Some : goal.returns-in-Some
returns-in-Some c = ap (λ (b : Bool). Some b) c.is_some.ensures ∙ reply_found c.args.mark.now c.args.requests.now.entries (Some c.in-Some.in_flight.now) c.in-Some.ensures.value

pub returns-in-None : goal.returns-in-None
returns-in-None c = reply_found c.args.mark.now c.args.requests.now.entries None c.in-None.ensures.value
