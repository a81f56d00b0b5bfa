use Rattle.std.proofs.Common.{◌≡◌, ℕ, List, ap, sym, ◌∙◌}
use Rattle.std.specs.Ordering.{nat_cmp}
use Rattle.std.specs.Map.{set_value}
use Rattle.std.specs.BTreeMap.{is_at}
use Rattle.std.proofs.lemmas.Map.Steps.{set_value_same}
use Rattle.hickory_resolver_traffic.proofs.Refused.{if_refused}
use Rattle.hickory_resolver_traffic.proofs.inbox.extend.Goals as goal

pub returns-in-Some-clause-err : goal.returns-in-Some-clause-err
returns-in-Some-clause-err c =
    let test = is_at (nat_cmp c.args.channel) in
    let streams = c.args.streams.now.entries in
    if_refused c.push.result (λ (same : c.push.new.self ≡ c.in-Some.held.now).
    (c.get_mut.follows.holds c.push.new.self).0
    ∙ ap (λ (o : List ℕ). set_value test streams o) same
    ∙ set_value_same test streams c.in-Some.held.now (sym c.in-Some.ensures.value))
    c.push.ensures.err
