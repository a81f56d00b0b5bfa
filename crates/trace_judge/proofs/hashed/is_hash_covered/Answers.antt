use Rattle.std.proofs.Common.{◌≡◌, ◌∙◌, ap, ap₂, sym}
use Rattle.std.proofs.lemmas.Result.{IfOk-weaker}
use Rattle.synthesis.specs.Nsec3.{covers}
use Rattle.trace_judge.specs.Hashed.{is_hashed, says, says_if}
use Rattle.trace_judge.specs.Index.{any_owner}
use Rattle.trace_judge.specs.Making.{lasts}
use Rattle.trace_judge.proofs.Made.{cover-made}
use Rattle.trace_judge.proofs.hashed.is_hash_covered.Goals as goal

pub returns : goal.returns
returns c = λ e s.
    let index = c.args.evidence.now in let until = c.args.until in let class = c.args.dns_class in
    let chain = c.args.chain.now in let hashed = c.in-Some.hashed in
    let makes = is_hashed class (covers chain hashed) in
    IfOk-weaker c.any_owner.result (λ is. is ≡ any_owner c.late-from.result makes c.nsec3.result.now)
    (λ is. is ≡ says (lasts e until) class chain c.args.star c.args.name.now (covers chain))
    (λ made is. is
    ∙ ap₂ (λ n o. any_owner n makes o) c.late-from.ensures (c.nsec3.ensures ∙ ap (λ v. v.gaps.nsec3) c.evidence.view_is)
    ∙ cover-made e index s until class chain hashed
    ∙ ap (says_if (lasts e until) class (covers chain)) (sym c.in-Some.is ∙ c.in_ok-hashed.ensures))
    c.any_owner.ensures
