use Rattle.std.proofs.Common.{◌∙◌, ap, sym, slice_set, arith}
use Rattle.std.proofs.lemmas.List.Edits.{map_over_more}
use Rattle.hickory_proto_core.specs.Records.{lower_ttl}
use Rattle.hickory_proto_core.proofs.glue.lower_ttls.Goals as goal

pub loop-record-preserved : goal.loop-record-preserved
loop-record-preserved c =
    let ys = c.loop-record.record-items in
    let i = c.loop-record.record-index in
    let f = lower_ttl c.args.seconds in
    ap (λ r. slice_set ys i r) (c.decrement_ttl.ensures ∙ ap (λ r. f r) (sym c.record-item.is))
    ∙ map_over_more (λ r. f r) c.deref_mut-record-items.result.now ys i c.record-item.result (omega arith) c.loop-record.invariant c.record-item.is
