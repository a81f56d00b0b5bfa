use Rattle.std.proofs.Common.{◌∙◌, Ok}
use Rattle.hickory_resolver.specs.Requests.{request_of}
use Rattle.replay_script.specs.Words.{texts}
use Rattle.conversation.specs.Answers.{AnswersSaid, BeginsRequest}
use Rattle.conversation.specs.Faults.{of_line}
use Rattle.conversation.specs.Hearing.{IsBegunOut, IsServedOut}
use Rattle.conversation.specs.Said as said
use Rattle.conversation.specs.State.{conversation_of}
use Rattle.conversation.specs.declared.fault.ConversationFault.TheVariants as fault
use Rattle.conversation.proofs.Answered.{acted_refused, answered_as}
use Rattle.conversation.proofs.Beginnings.{asks, asks_fault, mark_used, request_left}
use Rattle.conversation.proofs.Held.{is_held}
use Rattle.conversation.proofs.state.State.begin.Goals as goal

pub returns-then-contains_key : goal.returns-then-contains_key
returns-then-contains_key c =
    let s = c.args.self.now in
    acted_refused (conversation_of s) c.args.mark.now (said.Request c.args.explains (texts c.args.fields.now)) (of_line fault.MarkInUse) c.refuse_line.result c.refuse_line.ensures
    (λ told. mark_used (conversation_of s) c.args.mark.now c.args.explains (texts c.args.fields.now) (is_held c.args.mark.now s.requests.entries c.contains_key.result c.contains_key.ensures ∙ c.if-contains_key.true))

pub returns-in-Ok : goal.returns-in-Ok
returns-in-Ok c =
    let s = c.args.self.now in
    let given = texts c.args.fields.now in
    let request = request_of c.in-Ok.request in
    answered_as (conversation_of s) (conversation_of c.begin_request.new.self) c.args.mark.now (BeginsRequest (conversation_of s) c.args.mark.now c.args.explains request) (AnswersSaid (conversation_of s) c.args.mark.now (said.Request c.args.explains given)) (IsBegunOut (conversation_of s).phase request) (IsServedOut (conversation_of s) c.args.mark.now (said.Request c.args.explains given)) c.begin_request.result
    (λ answer kind. asks (conversation_of s) c.args.mark.now c.args.explains given answer (Ok request) (is_held c.args.mark.now s.requests.entries c.contains_key.result c.contains_key.ensures ∙ c.if-contains_key.false) c.in-Ok.ensures kind)
    (λ phase left. request_left (conversation_of s) c.args.mark.now c.args.explains given request phase (is_held c.args.mark.now s.requests.entries c.contains_key.result c.contains_key.ensures ∙ c.if-contains_key.false) c.in-Ok.ensures left)
    c.begin_request.ensures

pub returns-in-Err : goal.returns-in-Err
returns-in-Err c =
    let s = c.args.self.now in
    acted_refused (conversation_of s) c.args.mark.now (said.Request c.args.explains (texts c.args.fields.now)) c.in-Err.refusal c.refuse.result c.refuse.ensures
    (λ told. asks_fault (conversation_of s) c.args.mark.now c.args.explains (texts c.args.fields.now) c.in-Err.refusal (is_held c.args.mark.now s.requests.entries c.contains_key.result c.contains_key.ensures ∙ c.if-contains_key.false) c.in-Err.ensures told)
