use Rattle.std.proofs.Common.{◌≡◌, ◌∙◌, ◌-◌, ◌+◌, length, take, drop, Some, sym, ap, arith}
use Rattle.std.proofs.lemmas.Grind.{common_steps}
use Rattle.resolv_conf.proofs.LineLists.{cut-at, cut-nowhere}
use Rattle.resolv_conf.proofs.text.cut_at.Goals as goal

pub returns-in-Some : goal.returns-in-Some
returns-in-Some c =
    let octets = c.args.octets.now in
    let end = c.in-Some.end in
    let rest : take (length octets - (end + 1)) (drop (end + 1) octets) ≡ drop (end + 1) octets = grind (arith, common_steps) in
    cut-at c.args.octet end octets (sym c.octet_index.ensures ∙ c.in-Some.is)
    ∙ ap (λ r. Some (take end octets, r)) (sym rest)

pub returns-in-None : goal.returns-in-None
returns-in-None c = cut-nowhere c.args.octet c.args.octets.now (sym c.octet_index.ensures ∙ c.in-None.is)
