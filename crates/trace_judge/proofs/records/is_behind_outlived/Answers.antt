use Rattle.std.proofs.Common.{◌≡◌, ◌∙◌, ◌&&◌, Bool, IfOk, ap, subst, sym}
use Rattle.trace_judge.specs.Aliases.{is_alias_outlived}
use Rattle.trace_judge.specs.Trace.{milliseconds_of}
use Rattle.trace_judge.proofs.records.is_behind_outlived.Goals as goal

pub returns-then-is_in_answer : goal.returns-then-is_in_answer
returns-then-is_in_answer c = λ e s.
    let outlived = is_alias_outlived e.slack e.received (milliseconds_of c.args.now) c.args.query.now in
    subst (λ b. IfOk c.is_alias_outlived.result (λ (o : Bool). o ≡ (b && outlived c.args.told.now.name)))
    (sym c.if-is_in_answer.true ∙ c.is_in_answer.ensures)
    (subst (λ n. IfOk c.is_alias_outlived.result (λ (o : Bool). o ≡ outlived n)) (ap (λ r. r.name) c.told.view_is)
    (c.is_alias_outlived.ensures e s))
