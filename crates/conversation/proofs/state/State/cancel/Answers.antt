use Rattle.std.proofs.Common.{◌≡◌, ◌∙◌, sym}
use Rattle.replay_script.specs.Words.{texts}
use Rattle.replay_script.specs.declared.fault.ScriptFault.TheVariants as script
use Rattle.conversation.specs.Answers.{cancels}
use Rattle.conversation.specs.Faults.{of_line}
use Rattle.conversation.specs.Said as said
use Rattle.conversation.specs.State.{conversation_of}
use Rattle.conversation.specs.declared.fault.ConversationFault.TheVariants as fault
use Rattle.conversation.proofs.Answered.{acted_refused}
use Rattle.conversation.proofs.Held.{is_held}
use Rattle.conversation.proofs.Outcomes.{cancels_held, not_cancelled, not_in_flight}
use Rattle.conversation.proofs.Settings.{empty_texts}
use Rattle.conversation.proofs.state.State.cancel.Goals as goal

pub returns-then-not-contains_key : goal.returns-then-not-contains_key
returns-then-not-contains_key c =
    let s = c.args.self.now in
    let given = texts c.args.behind.now in
    acted_refused (conversation_of s) c.args.mark.now (said.Cancel given) (of_line fault.NoSuchRequest) c.refuse_line.result c.refuse_line.ensures
    (λ told. not_in_flight (conversation_of s) c.args.mark.now (λ r answer. answer ≡ cancels (conversation_of s) c.args.mark.now given) (is_held c.args.mark.now s.requests.entries c.contains_key.result c.contains_key.ensures ∙ c.if-not-contains_key.true))

pub returns-then-not-is_empty : goal.returns-then-not-is_empty
returns-then-not-is_empty c =
    let s = c.args.self.now in
    acted_refused (conversation_of s) c.args.mark.now (said.Cancel (texts c.args.behind.now)) (of_line (fault.Script script.FieldCount)) c.refuse_line-then-not-is_empty.result c.refuse_line-then-not-is_empty.ensures
    (λ told. not_cancelled (conversation_of s) c.args.mark.now (texts c.args.behind.now) (is_held c.args.mark.now s.requests.entries c.contains_key.result c.contains_key.ensures ∙ c.if-not-contains_key.false) (empty_texts c.args.behind.now ∙ sym c.is_empty.ensures ∙ c.if-not-is_empty.true))

pub returns : goal.returns
returns c =
    let s = c.args.self.now in
    cancels_held (conversation_of s) (conversation_of c.cancel_request.new.self) c.args.mark.now (texts c.args.behind.now) c.cancel_request.result (is_held c.args.mark.now s.requests.entries c.contains_key.result c.contains_key.ensures ∙ c.if-not-contains_key.false) (empty_texts c.args.behind.now ∙ sym c.is_empty.ensures ∙ c.if-not-is_empty.false) c.cancel_request.ensures
