use Rattle.std.proofs.Common.{string_bytes}
use Rattle.hickory_resolver.specs.Requests.{request_of}
use Rattle.conversation.specs.State.{conversation_of}
use Rattle.conversation.proofs.Beginnings.{served_telling}
use Rattle.conversation.proofs.state.State.serve_telling.Goals as goal

pub returns-in-Ok : goal.returns-in-Ok
returns-in-Ok c =
    served_telling (conversation_of c.args.self.now) (conversation_of c.serve.new.self) c.args.mark.now c.args.explains (request_of c.args.request) (string_bytes c.args.told) c.in-Ok.heard c.telling.result c.in-Ok.ensures c.telling.ensures.others c.telling.ensures.journal
