use Rattle.std.proofs.Common.{◌≡◌, ◌∙◌, ◌+◌, ◌-◌, ◌∷◌, length, take, drop, sym, ap, arith}
use Rattle.std.proofs.lemmas.Grind.{common_steps}
use Rattle.std.specs.Str.Lines.{lines}
use Rattle.replay_script.proofs.LineLists.{lines-ended, lines-last}
use Rattle.replay_script.proofs.fields.split_line.Goals as goal

pub returns-in-Some : goal.returns-in-Some
returns-in-Some c =
    let script = c.args.script.now in
    let rest : take (length script - (c.in-Some.end + 1)) (drop (c.in-Some.end + 1) script) ≡ drop (c.in-Some.end + 1) script = grind (arith, common_steps) in
    λ some. lines-ended script c.in-Some.end (sym c.line_len.ensures ∙ c.in-Some.is)
    ∙ ap (λ l. l ∷ lines (drop (c.in-Some.end + 1) script)) (sym c.without_return.ensures)
    ∙ ap (λ r. c.without_return.result.now ∷ lines r) (sym rest)

pub returns-in-None : goal.returns-in-None
returns-in-None c = λ some. lines-last c.args.script.now (sym c.line_len.ensures ∙ c.in-None.is) some
