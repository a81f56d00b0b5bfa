use Rattle.std.proofs.Common.{◌∙◌, ap, sym, slice_set, arith}
use Rattle.std.proofs.lemmas.List.Edits.{map_over_more}
use Rattle.hickory_resolver_model.specs.Bounds.{clamped_record}
use Rattle.hickory_resolver_lookup.proofs.ttl_config.TtlConfig.clamp_records.Goals as goal

pub loop-limited-preserved : goal.loop-limited-preserved
loop-limited-preserved c =
    let ys = c.loop-limited.limited-items in
    let i = c.loop-limited.limited-index in
    let f = clamped_record c.args.self.now in
    ap (λ r. slice_set ys i r) (c.clamp_record.ensures ∙ ap (λ r. f r) (sym c.limited-item.is))
    ∙ map_over_more (λ r. f r) c.deref_mut-limited-items.result.now ys i c.limited-item.result (omega arith) c.loop-limited.invariant c.limited-item.is
