use Rattle.std.proofs.Common.{◌≡◌, ◌∙◌, ◌-◌, IfOk, ap, sym, subst, arith}
use Rattle.std.specs.List.{list_any}
use Rattle.trace_judge.specs.Index.{leads_in_by}
use Rattle.trace_judge.proofs.Leading.{leads_here, leads_more, leads_nowhere}
use Rattle.trace_judge.proofs.aliases.+leading.Goals as goal

pub leads-returns-then-is_same_name : goal.leads-returns-then-is_same_name
leads-returns-then-is_same_name t c =
    sym (leads_here c.args.until c.args.seen.now c.args.class c.args.to.now c.args.hops c.args.from.now (sym c.is_same_name.ensures ∙ c.if-is_same_name.true))

pub leads-returns-then-hops-eq0 : goal.leads-returns-then-hops-eq0
leads-returns-then-hops-eq0 t c =
    sym (leads_nowhere c.args.until c.args.seen.now c.args.class c.args.to.now c.args.hops c.args.from.now c.if-hops-eq0.true (sym c.is_same_name.ensures ∙ c.if-is_same_name.false))

pub leads-returns : goal.leads-returns
leads-returns t c =
    subst (λ b. IfOk c.any_leads.result (λ led. led ≡ b))
    (ap (list_any (leads_in_by c.args.until c.args.seen.now c.args.class c.args.to.now (c.args.hops - 1) c.args.from.now)) c.in_ok-aliases.ensures
    ∙ sym (leads_more c.args.until c.args.seen.now c.args.class c.args.to.now c.args.hops c.args.from.now (omega arith) (sym c.is_same_name.ensures ∙ c.if-is_same_name.false)))
    c.any_leads.ensures
