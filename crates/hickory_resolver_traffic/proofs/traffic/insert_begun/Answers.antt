use Rattle.std.proofs.Common.{◌≡◌, ℕ, List, ap, sym, ◌∙◌}
use Rattle.std.specs.Prelude.{None}
use Rattle.std.specs.Ordering.{nat_cmp}
use Rattle.std.specs.Map.{lookup}
use Rattle.std.specs.BTreeMap.{is_at}
use Rattle.hickory_resolver_channels.proofs.Undone.{insert-undone, none-where_not}
use Rattle.hickory_resolver_traffic.specs.Table.{TableState, EntryState, without_entry}
use Rattle.hickory_resolver_traffic.proofs.Refused.{same-number}
use Rattle.hickory_resolver_traffic.proofs.traffic.insert_begun.Goals as goal

pub returns-in-Err-clause-unlisted : goal.returns-in-Err-clause-unlisted
returns-in-Err-clause-unlisted c =
    let n = c.args.number in
    let entries = c.args.table.now.entries in
    let absent : lookup (is_at (nat_cmp n)) entries ≡ None =
    none-where_not (lookup (is_at (nat_cmp n)) entries) (sym c.has_entry.ensures ∙ c.if-has_entry.false) in
    c.take.ensures.after
    ∙ ap (λ (t : TableState). without_entry n t) c.in_ok-insert_entry.ensures.ok
    ∙ ap (λ (es : List (ℕ × EntryState)). record c.args.table.now { entries = es })
    (insert-undone nat_cmp n (same-number n) c.args.entry entries absent)
