use Rattle.std.proofs.Common.{◌≡◌, ◌∙◌, ap, ap₂}
use Rattle.std.proofs.lemmas.Result.{IfOk-weaker}
use Rattle.trace_judge.specs.Index.{any_owner}
use Rattle.trace_judge.specs.Making.{lasts, makes_denial}
use Rattle.trace_judge.proofs.Made.{between-made}
use Rattle.trace_judge.proofs.making.is_denied_between.Goals as goal

pub returns : goal.returns
returns c = λ e s.
    let index = c.args.evidence.now in let until = c.args.until in
    let makes = makes_denial c.args.dns_class c.args.name.now c.args.denied in
    IfOk-weaker c.any_owner.result (λ made. made ≡ any_owner c.late-from.result makes c.nsec.result.now)
    (λ made. made ≡ lasts e until makes)
    (λ made is. is
    ∙ ap₂ (λ n o. any_owner n makes o) c.late-from.ensures (c.nsec.ensures ∙ ap (λ v. v.gaps.nsec) c.evidence.view_is)
    ∙ between-made e index s until c.args.dns_class c.args.name.now c.args.denied)
    c.any_owner.ensures
