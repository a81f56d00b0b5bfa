use Rattle.std.proofs.Common.{◌≡◌, length, sym, ◌∙◌}
use Rattle.std.proofs.lemmas.Bool.{ne_eqb}
use Rattle.std.specs.Cmp.Lexicographic.{unequal}
use Rattle.hickory_resolver_lookup.proofs.BoundsByType.{same_entry, same_maps}
use Rattle.hickory_resolver_lookup.proofs.ttl_config.have_same_bounds.Goals as goal

pub returns-then-len : goal.returns-then-len
returns-then-len c = c.eq.ensures ∙ same_maps c.args.a.now c.args.b.now c.len.ensures.ordered c.len-2.ensures.ordered

-- maps of which one has more entries
pub returns-else-len : goal.returns-else-len
returns-else-len c =
    let m = c.args.a.now in let n = c.args.b.now in
    let longer = λ (e : length m.entries ≡ length n.entries). c.if-len.false (c.len.ensures.len ∙ e ∙ sym c.len-2.ensures.len) in
    ne_eqb c.len.result c.len-2.result c.if-len.false
    ∙ sym (unequal same_entry m.entries n.entries longer)
    ∙ same_maps m n c.len.ensures.ordered c.len-2.ensures.ordered
