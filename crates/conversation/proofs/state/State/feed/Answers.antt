use Rattle.std.proofs.Common.{List, Option, ap, refl}
use Rattle.hickory_proto_core.specs.Handles.{OutcomeValue}
use Rattle.hickory_resolver_model.specs.Resolver.{ResolverValue}
use Rattle.conversation.specs.State.{begun_of, conversation_of, requests_of, phase_of}
use Rattle.conversation.specs.Telling.{phase_by}
use Rattle.conversation.proofs.Outcomes.{fed, not_fed}
use Rattle.conversation.proofs.state.State.feed.Goals as goal

pub returns-in-None : goal.returns-in-None
returns-in-None c = not_fed (conversation_of c.args.self.now) c.args.mark.now (begun_of c.args.begun) c.args.waiting c.args.outcome _

pub returns-in-Some : goal.returns-in-Some
returns-in-Some c =
    let s = c.args.self.now in
    fed (conversation_of s) (record (conversation_of s) { phase = phase_by c.go_on.new.resolver; requests = requests_of c.go_on.new.requests.entries }) c.args.mark.now (begun_of c.args.begun) c.args.waiting c.args.outcome c.go_on.result (phase_by c.in-Some.resolver) (phase_by c.go_on.new.resolver)
    (ap (λ (r : Option (ResolverValue (List OutcomeValue))). phase_of s.configuration s.files r) c.in-Some.is) refl refl c.go_on.ensures
