use Rattle.std.proofs.Common.{◌≡◌, length, sym, ap, ◌∙◌, true≢false, arith}
use Rattle.std.proofs.lemmas.Bool.{eq-eqb}
use Rattle.std.proofs.lemmas.Bool.Decides.{nat_tests}
use Rattle.hickory_resolver_model.specs.Lookup.{answers_for_day}
use Rattle.hickory_resolver_hosts.proofs.InOrder.{pointer_none, pointer_some}
use Rattle.hickory_resolver_hosts.proofs.hosts.pointer_lookup.Goals as goal

pub returns-then-is_empty-clause-ok : goal.returns-then-is_empty-clause-ok
returns-then-is_empty-clause-ok c =
    let none : length c.args.records.items ≡ 0 = grind (arith, nat_tests, c.args.records.ok.0, c.is_empty.ensures, c.if-is_empty.true) in
    pointer_none c.args.query.now c.args.records.items c.args.now none

pub returns-clause-ok : goal.returns-clause-ok
returns-clause-ok c =
    let some : length c.args.records.items ≡ 0 → ⊥ = λ e. true≢false (sym (eq-eqb _ 0 (c.args.records.ok.0 ∙ e)) ∙ sym c.is_empty.ensures ∙ c.if-is_empty.false) in
    pointer_some c.args.query.now c.args.records.items c.args.now c.in_ok-new_with_max_ttl.field-0 some
    (c.in_ok-new_with_max_ttl.ensures.ok ∙ ap (λ q. answers_for_day q c.args.records.items c.args.now) c.in_ok-clone.ensures.ok)
