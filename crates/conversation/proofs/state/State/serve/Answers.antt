use Rattle.std.proofs.Common.{List, Option, ap, refl}
use Rattle.hickory_proto_core.specs.Handles.{OutcomeValue}
use Rattle.hickory_resolver.specs.Requests.{request_of}
use Rattle.hickory_resolver_model.specs.Resolver.{ResolverValue, settings}
use Rattle.conversation.specs.State.{conversation_of, requests_of, phase_of}
use Rattle.conversation.specs.Telling.{phase_by}
use Rattle.conversation.proofs.Beginnings.{not_served, served}
use Rattle.conversation.proofs.state.State.serve.Goals as goal

pub returns-in_default : goal.returns-in_default
returns-in_default c = not_served (conversation_of c.args.self.now) c.args.mark.now c.args.explains (request_of c.args.request) _

pub returns : goal.returns
returns c =
    let s = c.args.self.now in
    served (conversation_of s) (record (conversation_of s) { phase = phase_by c.begin.new.resolver; requests = requests_of c.begin.new.requests.entries }) c.args.mark.now c.args.explains (request_of c.args.request) (settings c.in-Some.resolver) c.in-Some.resolver.client.cache c.begin.result (phase_by c.begin.new.resolver)
    (ap (λ (r : Option (ResolverValue (List OutcomeValue))). phase_of s.configuration s.files r) c.in-Some.is) refl refl c.begin.ensures
