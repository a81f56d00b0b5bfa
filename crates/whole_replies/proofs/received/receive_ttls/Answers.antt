use Rattle.std.proofs.Common.{◌∙◌, ap, sym, slice_set, arith}
use Rattle.std.proofs.lemmas.List.Edits.{map_over_more}
use Rattle.whole_replies.specs.Received.{with_received_ttl}
use Rattle.whole_replies.proofs.received.receive_ttls.Goals as goal

pub loop-found-preserved : goal.loop-found-preserved
loop-found-preserved c =
    let ys = c.loop-found.found-items in
    let i = c.loop-found.found-index in
    ap (λ r. slice_set ys i r) (c.receive_ttl.ensures ∙ ap (λ r. with_received_ttl r) (sym c.found-item.is))
    ∙ map_over_more (λ r. with_received_ttl r) c.deref_mut-found-items.result.now ys i c.found-item.result (omega arith) c.loop-found.invariant c.found-item.is
