use Rattle.std.proofs.Common.{◌≡◌, ◌+◌, ◌∷◌, Err, List, Ok, drop, subst, ℕ}
use Rattle.conversation.specs.Telling.{IsLineSet}
use Rattle.conversation.proofs.FileLines.{next_line, set_off, set_on}
use Rattle.conversation.proofs.file_settings.set_lines.Goals as goal

pub loop-line-preserved : goal.loop-line-preserved
loop-line-preserved c =
    let lines = c.args.lines.now in let i = c.loop-line.line-index in let line = c.line-item.result in let now = c.loop-line.configuration in let after = c.set_line.new.configuration in
    let at : drop i lines ≡ line ∷ drop (i + 1) lines = next_line lines i line c.loop-line-test.true c.line-item.is in
    set_on lines (drop i lines) (drop (i + 1) lines) line c.args.configuration.now now after c.loop-line.invariant at
    (subst (λ (text : List ℕ). IsLineSet text now (Ok tt) after) c.as_str.ensures.value c.in_default.ensures)

pub returns-in-Err : goal.returns-in-Err
returns-in-Err c =
    let lines = c.args.lines.now in let i = c.loop-line.line-index in let line = c.line-item.result in let now = c.loop-line.configuration in let after = c.set_line.new.configuration in
    let at : drop i lines ≡ line ∷ drop (i + 1) lines = next_line lines i line c.loop-line-test.true c.line-item.is in
    set_off lines (drop i lines) (drop (i + 1) lines) line c.args.configuration.now now after c.in-Err.fault c.loop-line.invariant at
    (subst (λ (text : List ℕ). IsLineSet text now (Err c.in-Err.fault) after) c.as_str.ensures.value c.in-Err.ensures)
