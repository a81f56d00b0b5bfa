use Rattle.std.proofs.Common.{◌∙◌, sym}
use Rattle.replay_script.specs.Words.{texts}
use Rattle.conversation.specs.Answers.{AnswersOutcome}
use Rattle.conversation.specs.Faults.{of_line}
use Rattle.conversation.specs.Said as said
use Rattle.conversation.specs.State.{conversation_of, requests_of}
use Rattle.conversation.specs.declared.fault.ConversationFault.TheVariants as fault
use Rattle.conversation.proofs.Answered.{acted_refused}
use Rattle.conversation.proofs.Outcomes.{line_fault, none_held, not_in_flight, outcome_read, reply_known, reply_not_done}
use Rattle.conversation.proofs.Settings.{line_read, line_wrong}
use Rattle.conversation.proofs.state.State.add_line.Goals as goal

pub returns-in_default : goal.returns-in_default
returns-in_default c =
    let s = c.args.self.now in
    let given = texts c.args.fields.now in
    acted_refused (conversation_of s) c.args.mark.now (said.Outcome c.args.begins given) (of_line fault.NoSuchRequest) c.refuse_line.result c.refuse_line.ensures
    (λ told. not_in_flight (conversation_of s) c.args.mark.now (λ r. AnswersOutcome (conversation_of s) c.args.mark.now r c.args.begins given) (none_held c.args.mark.now (requests_of s.requests.entries) c.has_reply.result c.has_reply.ensures c.in_default.not-Some))

pub returns-then-is_early : goal.returns-then-is_early
returns-then-is_early c =
    let s = c.args.self.now in
    acted_refused (conversation_of s) c.args.mark.now (said.Outcome c.args.begins (texts c.args.fields.now)) (of_line fault.ReplyNotDone) c.refuse_line-then-is_early.result c.refuse_line-then-is_early.ensures
    (λ told. reply_not_done (conversation_of s) c.args.mark.now c.args.begins (texts c.args.fields.now) c.in-Some.has_reply (reply_known c.args.mark.now (requests_of s.requests.entries) c.has_reply.result c.in-Some.has_reply c.has_reply.ensures c.in-Some.is) (sym c.is_early.ensures ∙ c.if-is_early.true))

pub returns-in-Ok : goal.returns-in-Ok
returns-in-Ok c =
    let s = c.args.self.now in
    outcome_read (conversation_of s) (conversation_of c.take_line.new.self) c.args.mark.now c.args.begins (texts c.args.fields.now) c.in-Some.has_reply c.in-Ok.line c.take_line.result (reply_known c.args.mark.now (requests_of s.requests.entries) c.has_reply.result c.in-Some.has_reply c.has_reply.ensures c.in-Some.is)
    (sym c.is_early.ensures ∙ c.if-is_early.false) (line_read c.in-Some.has_reply (texts c.args.fields.now) c.in-Ok.line c.in-Ok.ensures) c.take_line.ensures

pub returns-in-Err : goal.returns-in-Err
returns-in-Err c =
    let s = c.args.self.now in
    acted_refused (conversation_of s) c.args.mark.now (said.Outcome c.args.begins (texts c.args.fields.now)) c.in-Err.refusal c.refuse.result c.refuse.ensures
    (λ told. line_fault (conversation_of s) c.args.mark.now c.args.begins (texts c.args.fields.now) c.in-Some.has_reply c.in-Err.refusal (reply_known c.args.mark.now (requests_of s.requests.entries) c.has_reply.result c.in-Some.has_reply c.has_reply.ensures c.in-Some.is)
    (sym c.is_early.ensures ∙ c.if-is_early.false) (line_wrong c.in-Some.has_reply (texts c.args.fields.now) c.in-Err.refusal c.in-Err.ensures told))
