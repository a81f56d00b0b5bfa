use Rattle.std.proofs.Common.{◌∷◌, [], sym, ap, ◌∙◌}
use Rattle.resolv_conf.specs.Text.{lines_of}
use Rattle.resolv_conf.proofs.LineLists.{lines_of-cut, lines_of-last}
use Rattle.resolv_conf.proofs.text.split_line.Goals as goal

pub returns-in-Some : goal.returns-in-Some
returns-in-Some c =
    lines_of-cut c.args.octets.now c.in-Some.line.now c.in-Some.rest.now c.in-Some.ensures
    ∙ ap (λ l. l ∷ lines_of c.in-Some.rest.now) (sym c.text_of.ensures)

pub returns-in-None : goal.returns-in-None
returns-in-None c =
    lines_of-last c.args.octets.now c.in-None.ensures ∙ ap (λ l. l ∷ []) (sym c.text_of-in-None.ensures)
