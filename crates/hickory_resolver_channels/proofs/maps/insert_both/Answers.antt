use Rattle.std.proofs.Common.{◌≡◌, ℕ, List, ap, sym, ◌∙◌}
use Rattle.std.specs.Prelude.{Option, None}
use Rattle.std.specs.Map.{lookup, remove_entry}
use Rattle.std.specs.BTreeMap.{is_at}
use Rattle.std.specs.Option.{is_some}
use Rattle.hickory_resolver_channels.specs.Channels.{pair_cmp}
use Rattle.hickory_resolver_channels.proofs.Undone.{insert-undone, pair-same, none-where_not}
use Rattle.hickory_resolver_channels.proofs.maps.insert_both.Goals as goal

pub returns-in-Err-clause-untried : goal.returns-in-Err-clause-untried
returns-in-Err-clause-untried c =
    let n = c.args.number in
    let i = c.args.id in
    let tries = c.args.tries.now.entries in
    let found = c.transaction_in.ensures in
    let absent : lookup (is_at (pair_cmp (n, i))) tries ≡ None =
    none-where_not (lookup (is_at (pair_cmp (n, i))) tries)
    (ap (λ (o : Option ℕ). is_some o) (sym found) ∙ sym c.is_some.ensures ∙ c.if-is_some.false) in
    c.remove_try.ensures
    ∙ ap (λ (es : List ((ℕ × ℕ) × ℕ)). remove_entry (is_at (pair_cmp (n, i))) es) c.in_ok-insert_try.ensures.ok
    ∙ insert-undone pair_cmp (n, i) (pair-same n i) c.args.transaction tries absent
