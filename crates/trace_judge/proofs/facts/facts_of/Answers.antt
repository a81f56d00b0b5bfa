use Rattle.std.proofs.Common.{◌≡◌, ◌∙◌, ◌-◌, ap, max, subst, sym, arith}
use Rattle.trace_judge.specs.Index.{Stands, last_from, reaches, seen_at, tried_in}
use Rattle.trace_judge.specs.Receptions.{grace, reach}
use Rattle.trace_judge.specs.RecordKeys.{record_key}
use Rattle.trace_judge.specs.Trace.{milliseconds_of}
use Rattle.trace_judge.proofs.Knowing.{facts_known}
use Rattle.trace_judge.proofs.facts.facts_of.Goals as goal

pub returns : goal.returns
returns c = λ e s.
    let i = c.evidence.inside in let told = c.args.told.now in
    let near : c.of-seen.result.now ≡ seen_at i.seen.now (record_key told)
    = c.of-seen.ensures ∙ ap (seen_at i.seen.now) c.in_ok-key.ensures in
    let ttl : c.told.inside.ttl ≡ told.ttl = ap (λ r. r.ttl) c.told.view_is in
    let until : c.max.result ≡ max (reach (milliseconds_of c.args.now) told.ttl - grace i.slack) i.oldest = omega arith in
    let least : c.saturating_sub.result ≡ told.ttl - i.slack = omega arith in
    facts_known e _ (subst (Stands e) (sym c.evidence.view_is) s) c.args.now c.args.query.now told _
    (c.reaches.ensures ∙ ap (reaches told i.oldest 0) near)
    (c.reaches-2.ensures ∙ (λ k. reaches told (until k) 0 (near k)))
    (c.reaches-3.ensures ∙ (λ k. reaches told i.oldest (least k) (near k)))
    (c.last_from-deadline.ensures.value ∙ ap (last_from i.oldest told) near)
    (c.was_tried-tried.ensures
    ∙ (λ k. tried_in (sym c.evidence.view_is k) c.last_from-deadline.result c.args.query.now
    ((c.question.ensures ∙ ap (λ v. v.query) c.in_ok-key.ensures) k)))
