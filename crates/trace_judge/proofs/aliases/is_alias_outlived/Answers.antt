use Rattle.std.proofs.Common.{◌≡◌, ◌∙◌, ◌-◌, ◌&&◌, ap, max, not, subst, sym, arith}
use Rattle.trace_judge.specs.Index.{Stands, leads_in}
use Rattle.trace_judge.specs.Receptions.{grace}
use Rattle.trace_judge.specs.Trace.{milliseconds_of}
use Rattle.trace_judge.proofs.Leads.{outlived_by}
use Rattle.trace_judge.proofs.aliases.is_alias_outlived.Goals as goal

pub returns-then-led : goal.returns-then-led
returns-then-led c = λ e s.
    let i = c.evidence.inside in
    let current : c.max-current.result ≡ max (milliseconds_of c.args.now - grace i.slack) i.oldest = omega arith in
    sym (ap (λ b. b && not c.in_ok-leads.leads) c.if-led.true)
    ∙ outlived_by e _ (subst (Stands e) (sym c.evidence.view_is) s) (milliseconds_of c.args.now) c.args.query.now c.args.owner.now
    c.in_ok-led.led c.in_ok-leads.leads c.in_ok-led.ensures
    (c.in_ok-leads.ensures ∙ ap (λ n. leads_in n i.seen.now c.args.query.now.query_class c.args.owner.now 16 c.args.query.now.name) current)

pub returns-else-led : goal.returns-else-led
returns-else-led c = λ e s.
    let i = c.evidence.inside in
    let current : c.max-current.result ≡ max (milliseconds_of c.args.now - grace i.slack) i.oldest = omega arith in
    c.if-led.false ∙ sym (ap (λ b. b && not c.in_ok-leads.leads) c.if-led.false)
    ∙ outlived_by e _ (subst (Stands e) (sym c.evidence.view_is) s) (milliseconds_of c.args.now) c.args.query.now c.args.owner.now
    c.in_ok-led.led c.in_ok-leads.leads c.in_ok-led.ensures
    (c.in_ok-leads.ensures ∙ ap (λ n. leads_in n i.seen.now c.args.query.now.query_class c.args.owner.now 16 c.args.query.now.name) current)
