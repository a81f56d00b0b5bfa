use Rattle.std.proofs.Common.{Some, rules}
use Rattle.replay_script.specs.Words.{texts}
use Rattle.conversation.specs.Telling.{with_reply}
use Rattle.conversation.proofs.Held.{changed_here, stays_at_none}
use Rattle.conversation.proofs.requests.open_reply.Goals as goal

pub returns-in-Some : goal.returns-in-Some
returns-in-Some c =
    let now = c.open_reply.new.self in
    changed_here c.args.mark.now c.args.requests.now (c.get_mut.follows.lender now) c.in-Some.in_flight.now now (λ r. with_reply (texts c.args.fields.now) (Some c.args.reply) r) c.open_reply.result c.in-Some.ensures.value ((c.get_mut.follows.holds now).3 (search rules)) c.open_reply.ensures

pub returns-in-None : goal.returns-in-None
returns-in-None c = stays_at_none c.args.mark.now c.args.requests.now c.get_mut.follows.lender-at-none c.get_mut.follows.holds-at-none
