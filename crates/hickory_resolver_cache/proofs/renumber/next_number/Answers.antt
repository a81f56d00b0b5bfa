use Rattle.std.proofs.Common.{◌≡◌, ◌∙◌, sym, ap, subst, length}
use Rattle.hickory_resolver_cache.specs.Turns.{IsSameList, renumbered}
use Rattle.hickory_resolver_cache.proofs.Renumbered.{length-renumbered, on_err_fact, same_list-permuted, same_list-renumbered, same_list-trans}
use Rattle.hickory_resolver_cache.proofs.renumber.next_number.Goals as goal

pub returns-in_err-sort_by_number-clause-refused : goal.returns-in_err-sort_by_number-clause-refused
returns-in_err-sort_by_number-clause-refused g c =
    on_err_fact c.from_residual.result
    (same_list-permuted c.args.next_number c.args.index.now.entries c.sort_by_number.new.index.entries c.args.order.now c.requires.numbers c.requires.placed c.sort_by_number.ensures.reordered)

pub returns-in_err-fresh-clause-refused : goal.returns-in_err-fresh-clause-refused
returns-in_err-fresh-clause-refused g c =
    on_err_fact c.from_residual-in_err-fresh.result
    (same_list-permuted c.args.next_number c.args.index.now.entries c.sort_by_number.new.index.entries c.args.order.now c.requires.numbers c.requires.placed c.sort_by_number.ensures.reordered)

pub returns-clause-ok : goal.returns-clause-ok
returns-clause-ok g c =
    let next = c.args.next_number in
    let ps = c.args.index.now.entries in
    let rs = c.sort_by_number.new.index.entries in
    let fresh = c.in_ok-fresh.fresh in
    let sorted = same_list-permuted next ps rs c.args.order.now c.requires.numbers c.requires.placed c.sort_by_number.ensures.reordered in
    let anew = same_list-renumbered next rs fresh sorted.numbers c.in_ok-sort_by_number.ensures.sorted c.in_ok-fresh.ensures.ok in
    let whole = same_list-trans ps rs (renumbered 0 rs) next next (length rs) c.args.order.now fresh sorted anew in
    let long : length rs ≡ c.len.result = sym (c.len.ensures.len ∙ ap length c.number_anew.ensures ∙ length-renumbered 0 rs) in
    subst (λ n. IsSameList ps next c.number_anew.new.index.entries n fresh) long (subst (λ l. IsSameList ps next l (length rs) fresh) (sym c.number_anew.ensures) whole)
