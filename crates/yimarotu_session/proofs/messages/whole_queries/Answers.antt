use Rattle.std.proofs.Common.{◌∙◌, ap, sym, slice_set, arith}
use Rattle.std.proofs.lemmas.List.Edits.{map_over_more}
use Rattle.yimarotu_session.specs.Messages.{whole_query}
use Rattle.yimarotu_session.proofs.messages.whole_queries.Goals as goal

pub loop-asked-preserved : goal.loop-asked-preserved
loop-asked-preserved c =
    let ys = c.loop-asked.asked-items in
    let i = c.loop-asked.asked-index in
    ap (λ r. slice_set ys i r) (c.whole_query.ensures ∙ ap (λ r. whole_query r) (sym c.asked-item.is))
    ∙ map_over_more (λ r. whole_query r) c.deref_mut-asked-items.result.now ys i c.asked-item.result (omega arith) c.loop-asked.invariant c.asked-item.is
