use Rattle.std.proofs.Common.{◌∙◌, ap, sym, slice_set, arith}
use Rattle.std.proofs.lemmas.List.Edits.{map_over_more}
use Rattle.hickory_resolver_model.specs.Verdict.{with_ttl_at_most}
use Rattle.whole_lookups.proofs.capped.cap_ttls.Goals as goal

pub loop-found-preserved : goal.loop-found-preserved
loop-found-preserved c =
    let ys = c.loop-found.found-items in
    let i = c.loop-found.found-index in
    let f = with_ttl_at_most c.args.greatest in
    ap (λ r. slice_set ys i r) (c.cap_ttl.ensures ∙ ap (λ r. f r) (sym c.found-item.is))
    ∙ map_over_more (λ r. f r) c.deref_mut-found-items.result.now ys i c.found-item.result (omega arith) c.loop-found.invariant c.found-item.is
