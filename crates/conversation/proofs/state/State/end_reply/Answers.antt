use Rattle.std.proofs.Common.{◌∙◌, sym}
use Rattle.replay_script.specs.Words.{texts}
use Rattle.replay_script.specs.declared.fault.ScriptFault.TheVariants as script
use Rattle.conversation.specs.Answers.{AnswersDone}
use Rattle.conversation.specs.Faults.{of_line}
use Rattle.conversation.specs.Said as said
use Rattle.conversation.specs.State.{conversation_of, requests_of}
use Rattle.conversation.specs.declared.fault.ConversationFault.TheVariants as fault
use Rattle.conversation.proofs.Answered.{acted_refused}
use Rattle.conversation.proofs.Outcomes.{done_more, done_none, none_held, not_in_flight, reply_ended, reply_known}
use Rattle.conversation.proofs.Settings.{empty_texts}
use Rattle.conversation.proofs.state.State.end_reply.Goals as goal

pub returns-in_default : goal.returns-in_default
returns-in_default c =
    let s = c.args.self.now in
    let given = texts c.args.behind.now in
    acted_refused (conversation_of s) c.args.mark.now (said.Done given) (of_line fault.NoSuchRequest) c.refuse_line.result c.refuse_line.ensures
    (λ told. not_in_flight (conversation_of s) c.args.mark.now (λ r. AnswersDone (conversation_of s) c.args.mark.now r given) (none_held c.args.mark.now (requests_of s.requests.entries) c.has_reply.result c.has_reply.ensures c.in_default.not-Some))

pub returns-then-not-has_reply : goal.returns-then-not-has_reply
returns-then-not-has_reply c =
    let s = c.args.self.now in
    acted_refused (conversation_of s) c.args.mark.now (said.Done (texts c.args.behind.now)) (of_line (fault.Script script.NoReply)) c.refuse_line-then-not-has_reply.result c.refuse_line-then-not-has_reply.ensures
    (λ told. done_none (conversation_of s) c.args.mark.now (texts c.args.behind.now) c.in-Some.has_reply (reply_known c.args.mark.now (requests_of s.requests.entries) c.has_reply.result c.in-Some.has_reply c.has_reply.ensures c.in-Some.is) c.if-not-has_reply.true)

pub returns-then-not-is_empty : goal.returns-then-not-is_empty
returns-then-not-is_empty c =
    let s = c.args.self.now in
    acted_refused (conversation_of s) c.args.mark.now (said.Done (texts c.args.behind.now)) (of_line (fault.Script script.FieldCount)) c.refuse_line-then-not-is_empty.result c.refuse_line-then-not-is_empty.ensures
    (λ told. done_more (conversation_of s) c.args.mark.now (texts c.args.behind.now) c.in-Some.has_reply (reply_known c.args.mark.now (requests_of s.requests.entries) c.has_reply.result c.in-Some.has_reply c.has_reply.ensures c.in-Some.is) c.if-not-has_reply.false (empty_texts c.args.behind.now ∙ sym c.is_empty.ensures ∙ c.if-not-is_empty.true))

pub returns : goal.returns
returns c =
    let s = c.args.self.now in
    reply_ended (conversation_of s) (conversation_of c.feed_reply.new.self) c.args.mark.now (texts c.args.behind.now) c.in-Some.has_reply c.feed_reply.result (reply_known c.args.mark.now (requests_of s.requests.entries) c.has_reply.result c.in-Some.has_reply c.has_reply.ensures c.in-Some.is) c.if-not-has_reply.false (empty_texts c.args.behind.now ∙ sym c.is_empty.ensures ∙ c.if-not-is_empty.false) c.feed_reply.ensures
