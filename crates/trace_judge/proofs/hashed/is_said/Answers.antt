use Rattle.std.proofs.Common.{◌∙◌, ap, ap₂, sym}
use Rattle.trace_judge.specs.Hashed.{is_hashed, says_if}
use Rattle.trace_judge.specs.Index.{any_late, seen_at, type_key}
use Rattle.trace_judge.specs.MadeIndex.{said_test}
use Rattle.trace_judge.specs.Making.{lasts}
use Rattle.trace_judge.specs.RecordKeys.{sought_key}
use Rattle.trace_judge.proofs.Made.{said-made}
use Rattle.trace_judge.proofs.hashed.is_said.Goals as goal

pub returns : goal.returns
returns c = λ e s.
    let index = c.args.evidence.now in let chain = c.args.chain.now in let class = c.args.dns_class in
    let hashed = c.in-Some.hashed in
    let makes = is_hashed class (said_test chain c.args.wanted hashed) in
    c.any_says.ensures
    ∙ ap₂ (λ n rs. any_late n makes rs) c.late-from.ensures
    (c.sought.ensures ∙ ap₂ seen_at (ap (λ v. v.seen) c.evidence.view_is)
    (ap sought_key (c.in_ok-key.ensures ∙ ap (type_key class hashed) c.from.ensures)))
    ∙ said-made e index s c.args.until class chain c.args.wanted hashed
    ∙ ap (says_if (lasts e c.args.until) class (said_test chain c.args.wanted)) (sym c.in-Some.is ∙ c.in_ok-hashed.ensures)
