use Rattle.std.proofs.Common.{refl}
use Rattle.conversation.specs.State.{conversation_of, in_flight_of, requests_of}
use Rattle.conversation.proofs.Outcomes.{reply_fed}
use Rattle.conversation.proofs.state.State.feed_reply.Goals as goal

pub returns-in-Some-reply : goal.returns-in-Some-reply
returns-in-Some-reply c =
    let s = conversation_of c.args.self.now in
    reply_fed s (record s { requests = requests_of c.take.new.requests.entries }) (conversation_of c.feed.new.self) c.args.mark.now (in_flight_of c.in-Some.in_flight) c.in-Some-reply.reply c.outcome_of.result c.feed.result
    c.in-Some.ensures.found c.in-Some-reply.is c.outcome_of.ensures refl refl c.take.ensures.taken c.feed.ensures
