use Rattle.std.proofs.Common.{◌∙◌, ap, sym, slice_set, arith}
use Rattle.std.proofs.lemmas.List.Edits.{map_over_more}
use Rattle.hickory_proto_core.specs.Records.{lower_ttl}
use Rattle.stored_replies.proofs.ageing.age_records.Goals as goal

pub loop-older-preserved : goal.loop-older-preserved
loop-older-preserved c =
    let ys = c.loop-older.older-items in
    let i = c.loop-older.older-index in
    let f = lower_ttl c.args.seconds in
    ap (λ r. slice_set ys i r) (c.age_record.ensures ∙ ap (λ r. f r) (sym c.older-item.is))
    ∙ map_over_more (λ r. f r) c.deref_mut-older-items.result.now ys i c.older-item.result (omega arith) c.loop-older.invariant c.older-item.is
