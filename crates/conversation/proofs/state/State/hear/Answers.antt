use Rattle.std.proofs.Common.{ap, refl, ℕ}
use Rattle.conversation.specs.State.{conversation_of, requests_of}
use Rattle.conversation.proofs.Hearings.{line_heard, line_out}
use Rattle.conversation.proofs.state.State.hear.Goals as goal

pub returns-in-Ok : goal.returns-in-Ok
returns-in-Ok c =
    let s = conversation_of c.args.self.now in
    line_heard s (record s { lines = c.saturating_add-self.result }) (conversation_of c.answer.new.self) c.args.line.now c.in-Ok.heard (ap (λ (n : ℕ). record s { lines = n }) c.saturating_add-self.ensures) c.in-Ok.ensures

pub returns-in-Err : goal.returns-in-Err
returns-in-Err c =
    let s = conversation_of c.args.self.now in
    let left = conversation_of c.answer.new.self in
    line_out s (record s { lines = c.saturating_add-self.result }) left (record left { requests = requests_of c.forget.new.requests.entries }) c.args.line.now c.mark_of.result.now c.in-Err.field-0 (ap (λ (n : ℕ). record s { lines = n }) c.saturating_add-self.ensures) c.mark_of.ensures c.in-Err.ensures refl refl c.forget.ensures
