use Rattle.std.proofs.Common.{◌∙◌, ap, sym, slice_set, arith}
use Rattle.std.proofs.lemmas.List.Edits.{map_over_more}
use Rattle.yimarotu_session.specs.Messages.{whole_record}
use Rattle.yimarotu_session.proofs.messages.whole_records.Goals as goal

pub loop-owned-preserved : goal.loop-owned-preserved
loop-owned-preserved c =
    let ys = c.loop-owned.owned-items in
    let i = c.loop-owned.owned-index in
    ap (λ r. slice_set ys i r) (c.whole_record.ensures ∙ ap (λ r. whole_record r) (sym c.owned-item.is))
    ∙ map_over_more (λ r. whole_record r) c.deref_mut-owned-items.result.now ys i c.owned-item.result (omega arith) c.loop-owned.invariant c.owned-item.is
