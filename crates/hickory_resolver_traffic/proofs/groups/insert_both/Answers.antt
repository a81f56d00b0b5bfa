use Rattle.std.proofs.Common.{◌≡◌, ℕ, List, ap, sym, ◌∙◌}
use Rattle.std.specs.Prelude.{None}
use Rattle.std.specs.Ordering.{nat_cmp}
use Rattle.std.specs.Map.{lookup, remove_entry}
use Rattle.std.specs.BTreeMap.{is_at}
use Rattle.hickory_resolver_channels.proofs.Undone.{insert-undone, none-where_not}
use Rattle.hickory_resolver_traffic.specs.Groups.{GroupListState}
use Rattle.hickory_resolver_traffic.proofs.Refused.{same-number}
use Rattle.hickory_resolver_traffic.proofs.groups.insert_both.Goals as goal

pub returns-in-Err-clause-unlisted : goal.returns-in-Err-clause-unlisted
returns-in-Err-clause-unlisted c =
    let n = c.args.number in
    let lists = c.args.lists.now.entries in
    let absent : lookup (is_at (nat_cmp n)) lists ≡ None =
    none-where_not (lookup (is_at (nat_cmp n)) lists) (sym c.has_list.ensures ∙ c.if-has_list.false) in
    c.drop_list.ensures
    ∙ ap (λ (es : List (ℕ × GroupListState)). remove_entry (is_at (nat_cmp n)) es) c.in_ok-insert_list.ensures.ok
    ∙ insert-undone nat_cmp n (same-number n) c.args.list lists absent
