use Rattle.std.proofs.Common.{◌∙◌, Bor, List, ap, sym, ℕ}
use Rattle.replay_script.specs.Words.{texts}
use Rattle.conversation.specs.Faults.{refusal_of}
use Rattle.conversation.specs.Lines.{mark_in, mark_of}
use Rattle.conversation.specs.Said.{said_by, said_in, said_value}
use Rattle.conversation.specs.State.{conversation_of}
use Rattle.conversation.proofs.Answered.{acted_out}
use Rattle.conversation.proofs.Hearings.{byte_said, read_told, skipped_told}
use Rattle.conversation.proofs.state.State.answer.Goals as goal

pub returns-then-is_skipped : goal.returns-then-is_skipped
returns-then-is_skipped c =
    skipped_told (conversation_of c.args.self.now) c.args.line.now c.told_nothing.result (sym c.is_skipped.ensures ∙ c.if-is_skipped.true) c.told_nothing.ensures.explained c.told_nothing.ensures.text c.told_nothing.ensures.journal c.told_nothing.ensures.last

pub returns-in_err-fields-in-Ok : goal.returns-in_err-fields-in-Ok
returns-in_err-fields-in-Ok c = acted_out (conversation_of c.args.self.now) (mark_of c.args.line.now) (said_by c.args.line.now) c.from_residual.result c.from_residual.ensures.0

pub returns-in_ok-fields-in-Ok : goal.returns-in_ok-fields-in-Ok
returns-in_ok-fields-in-Ok c =
    read_told (conversation_of c.args.self.now) (conversation_of c.act.new.self) c.in-Ok.text.now c.args.line.now c.mark_in.result.now (said_value c.of.result) c.act.result c.in-Ok.ensures.0 (sym c.is_skipped.ensures ∙ c.if-is_skipped.false) c.in-Ok.ensures.1
    (c.mark_in.ensures ∙ ap (λ (fs : List (Bor (List ℕ))). mark_in (texts fs)) c.deref.ensures ∙ ap mark_in c.in_ok-fields-in-Ok.ensures)
    (c.of.ensures ∙ ap (λ (fs : List (Bor (List ℕ))). said_in (texts fs)) c.deref-in-Ok.ensures ∙ ap said_in c.in_ok-fields-in-Ok.ensures)
    c.act.ensures

pub returns-in-Err : goal.returns-in-Err
returns-in-Err c =
    byte_said (conversation_of c.args.self.now) c.args.line.now c.from.result c.refuse.result (sym c.is_skipped.ensures ∙ c.if-is_skipped.false) c.in-Err.ensures.1 (c.from.ensures ∙ ap refusal_of c.in-Err.ensures.0) c.refuse.ensures
