use Rattle.std.proofs.Common.{◌∙◌, ap, sym, slice_set, arith}
use Rattle.std.proofs.lemmas.List.Edits.{map_over_more}
use Rattle.whole_replies.specs.Kept.{within_minimum}
use Rattle.whole_replies.proofs.kept_reply.keep_all_within_minimum.Goals as goal

pub loop-found-preserved : goal.loop-found-preserved
loop-found-preserved c =
    let ys = c.loop-found.found-items in
    let i = c.loop-found.found-index in
    ap (λ r. slice_set ys i r) (c.keep_within_minimum.ensures ∙ ap (λ r. within_minimum r) (sym c.found-item.is))
    ∙ map_over_more (λ r. within_minimum r) c.deref_mut-found-items.result.now ys i c.found-item.result (omega arith) c.loop-found.invariant c.found-item.is
