use Rattle.std.proofs.Common.{◌∙◌, ap, sym, slice_set, arith}
use Rattle.std.proofs.lemmas.List.Edits.{map_over_more}
use Rattle.hickory_resolver_model.specs.Cache.{aged_record}
use Rattle.hickory_resolver_cache.proofs.aging.age_records.Goals as goal

pub loop-older-preserved : goal.loop-older-preserved
loop-older-preserved c =
    let ys = c.loop-older.older-items in
    let i = c.loop-older.older-index in
    let f = aged_record c.args.seconds in
    ap (λ r. slice_set ys i r) (c.decrement_ttl.ensures ∙ ap (λ r. f r) (sym c.older-item.is))
    ∙ map_over_more (λ r. f r) c.deref_mut-older-items.result.now ys i c.older-item.result (omega arith) c.loop-older.invariant c.older-item.is
