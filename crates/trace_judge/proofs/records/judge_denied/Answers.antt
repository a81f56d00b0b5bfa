use Rattle.std.proofs.Common.{◌≡◌, ◌∙◌, ◌++◌, [], OnOk, ap, ap₂, append-nil, false, subst, sym, true}
use Rattle.std.proofs.lemmas.Bool.{cond-false, cond-true}
use Rattle.trace_judge.specs.Findings.{denial_facts_of, known_denial_findings}
use Rattle.trace_judge.specs.Making.{is_denial_made}
use Rattle.trace_judge.proofs.records.judge_denied.Goals as goal

pub returns-then-facts : goal.returns-then-facts
returns-then-facts c = λ e s.
    let now = c.args.now in let reply = c.args.reply.now in let denied = c.args.denied in let before = c.args.found.now.items in
    let f = denial_facts_of e now reply denied in
    let allowed : f.allowed ≡ true = ap (λ x. x.allowed) (sym (c.in_ok-facts.ensures e s)) ∙ c.if-facts.true in
    sym (ap (λ fs. before ++ fs) (cond-true f.allowed [] (known_denial_findings e now reply (is_denial_made e now reply denied) f) allowed)
    ∙ append-nil before)

pub returns : goal.returns
returns c = λ e s.
    let now = c.args.now in let reply = c.args.reply.now in let denied = c.args.denied in let before = c.args.found.now.items in
    let f = denial_facts_of e now reply denied in
    let allowed : f.allowed ≡ false = ap (λ x. x.allowed) (sym (c.in_ok-facts.ensures e s)) ∙ c.if-facts.false in
    subst (λ fs. OnOk c.judge_known_denial.result (c.judge_known_denial.new.found.items ≡ before ++ fs))
    (ap₂ (λ m x. known_denial_findings e now reply m x) (c.in_ok-made.ensures e s) (c.in_ok-facts.ensures e s)
    ∙ sym (cond-false f.allowed [] (known_denial_findings e now reply (is_denial_made e now reply denied) f) allowed))
    (c.judge_known_denial.ensures e s)
