use Rattle.hickory_resolver.specs.Requests.{request_of}
use Rattle.conversation.specs.State.{conversation_of}
use Rattle.conversation.proofs.Beginnings.{began, not_begun}
use Rattle.conversation.proofs.state.State.begin_request.Goals as goal

pub returns-in-Ok : goal.returns-in-Ok
returns-in-Ok c =
    began (conversation_of c.args.self.now) (conversation_of c.open.new.self) (conversation_of c.serve_telling.new.self) c.args.mark.now c.args.explains (request_of c.args.request) c.moment.result c.in-Ok.told c.serve_telling.result c.moment.ensures c.in-Ok.ensures c.serve_telling.ensures

pub returns-in-Err : goal.returns-in-Err
returns-in-Err c =
    not_begun (conversation_of c.args.self.now) (conversation_of c.open.new.self) c.args.mark.now c.args.explains (request_of c.args.request) c.moment.result c.in-Err.fault c.refuse_line.result c.moment.ensures c.in-Err.ensures c.refuse_line.ensures
