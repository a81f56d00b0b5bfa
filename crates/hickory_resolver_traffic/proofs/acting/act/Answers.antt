use Rattle.std.proofs.Common.{◌≡◌, ℕ, Bool, List, ap, sym, ◌∙◌}
use Rattle.std.specs.Ordering.{nat_cmp}
use Rattle.std.specs.Map.{set_value}
use Rattle.std.specs.BTreeMap.{is_at}
use Rattle.std.proofs.lemmas.Map.Steps.{set_value_same}
use Rattle.hickory_resolver_steps.specs.Lists.{ListState}
use Rattle.hickory_resolver_traffic.specs.Groups.{GroupListState}
use Rattle.hickory_resolver_traffic.specs.declared.groups.Sources.{Sources}
use Rattle.hickory_resolver_traffic.proofs.Refused.{if_refused}
use Rattle.hickory_resolver_traffic.proofs.acting.act.Goals as goal

abbrev list_by : List Sources → ℕ → Bool → ListState → GroupListState
list_by sources transactions is_current servers = record {
  servers = servers;
  sources = sources;
  transactions = transactions;
  is_current = is_current;
}

pub returns-in-Some-clause-lists : goal.returns-in-Some-clause-lists
returns-in-Some-clause-lists c =
    let test = is_at (nat_cmp c.args.list) in
    let lists = c.args.lists.now.entries in
    let by : ListState → GroupListState =
    list_by c.held.inside.sources.items c.held.inside.transactions c.held.inside.is_current in
    if_refused c.act_with.result (λ (same : c.act_with.new.servers ≡ c.held.inside.servers).
    (c.get_mut.follows.holds (by c.act_with.new.servers)).0
    ∙ ap (λ (s : ListState). set_value test lists (by s)) same
    ∙ ap (λ (l : GroupListState). set_value test lists l) c.held.view_is
    ∙ set_value_same test lists c.in-Some.held.now (sym c.in-Some.ensures.value))
    c.act_with.ensures.servers
