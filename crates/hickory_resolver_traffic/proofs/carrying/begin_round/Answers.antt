use Rattle.std.proofs.Common.{◌≡◌, ap, sym, ◌∙◌}
use Rattle.std.specs.Ordering.{nat_cmp}
use Rattle.std.specs.Map.{set_value}
use Rattle.std.specs.BTreeMap.{is_at}
use Rattle.std.proofs.lemmas.Map.Steps.{set_value_same}
use Rattle.hickory_resolver_traffic.specs.Groups.{GroupListState}
use Rattle.hickory_resolver_traffic.proofs.Refused.{if_refused}
use Rattle.hickory_resolver_traffic.proofs.carrying.begin_round.Goals as goal

pub returns-in-Some-clause-err : goal.returns-in-Some-clause-err
returns-in-Some-clause-err c =
    let test = is_at (nat_cmp c.args.list) in
    let lists = c.args.lists.now.entries in
    if_refused c.begin_with.result (λ (same : c.begin_with.new.held ≡ c.in-Some.held.now).
    (c.get_mut.follows.holds c.begin_with.new.held).0
    ∙ ap (λ (l : GroupListState). set_value test lists l) same
    ∙ set_value_same test lists c.in-Some.held.now (sym c.in-Some.ensures.value))
    c.begin_with.ensures.err
