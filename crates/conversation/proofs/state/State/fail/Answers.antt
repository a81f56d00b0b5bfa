use Rattle.std.proofs.Common.{ap, refl}
use Rattle.replay_script.specs.FailLine.{error_of}
use Rattle.replay_script.specs.Words.{texts}
use Rattle.conversation.specs.State.{begun_of, conversation_of, in_flight_of, requests_of}
use Rattle.conversation.proofs.Outcomes.{failed, failure_fed}
use Rattle.conversation.proofs.state.State.fail.Goals as goal

pub returns-in-Ok : goal.returns-in-Ok
returns-in-Ok c =
    let s = conversation_of c.args.self.now in
    failure_fed s (record s { requests = requests_of c.take.new.requests.entries }) (conversation_of c.feed.new.self) c.args.mark.now (texts c.args.fields.now) (in_flight_of c.in-Some.in_flight) (begun_of c.add_line.new.self) (failed c.error.result) (failed (error_of c.args.kind)) c.feed.result
    c.in-Some.ensures.found c.in-Ok.ensures (ap failed c.error.ensures) refl refl c.take.ensures.taken c.feed.ensures
