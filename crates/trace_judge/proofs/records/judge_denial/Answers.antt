use Rattle.std.proofs.Common.{◌≡◌, ◌∙◌, ◌++◌, OnOk, subst, sym}
use Rattle.trace_judge.specs.Findings.{denial_findings}
use Rattle.trace_judge.proofs.records.judge_denial.Goals as goal

pub returns-in-Some : goal.returns-in-Some
returns-in-Some c = λ e s.
    subst (λ o. OnOk c.judge_denied.result
    (c.judge_denied.new.found.items ≡ c.args.found.now.items ++ denial_findings e c.args.now c.args.reply.now o))
    (sym c.in-Some.is ∙ c.denied_by.ensures) (c.judge_denied.ensures e s)
