use Rattle.std.proofs.Common.{ℕ, List, [], get_or, ap, sym, ◌∙◌, Bor}
use Rattle.domain_table.specs.Domains.{inserted}
use Rattle.local_answers.specs.declared.rules.DomainRule.{DomainRule}
use Rattle.local_answers.specs.declared.rules.DomainRule.TheVariants as rule
use Rattle.local_answers.proofs.Served.{served-more}
use Rattle.local_answers.proofs.zones.serve_all.Goals as goal

pub loop-zone-preserved : goal.loop-zone-preserved
loop-zone-preserved g c =
    let zones = c.args.zones.now in
    let i = c.loop-zone.zone-index in
    let none : Bor (List ℕ) = record { ref_ptr = (0, 0); now = [] } in
    let served = λ (rules : List (List ℕ × DomainRule)). inserted (get_or zones i none).now rule.Serve rules in
    c.in_ok-insert.ensures.ok ∙ ap served c.loop-zone.invariant
    ∙ sym (served-more c.args.rules.now zones i none c.loop-zone-test.true)
