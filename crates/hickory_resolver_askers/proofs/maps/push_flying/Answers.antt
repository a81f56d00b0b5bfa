use Rattle.std.proofs.Common.{◌≡◌, List, ℕ, ap, sym, ◌∙◌}
use Rattle.std.specs.Ordering.{nat_cmp}
use Rattle.std.specs.Map.{set_value}
use Rattle.std.specs.BTreeMap.{is_at}
use Rattle.std.proofs.lemmas.Map.Steps.{set_value_same}
use Rattle.hickory_resolver_askers.proofs.Refused.{if_refused}
use Rattle.hickory_resolver_askers.proofs.maps.push_flying.Goals as goal

pub returns-in-Some-clause-err : goal.returns-in-Some-clause-err
returns-in-Some-clause-err c =
    let test = is_at (nat_cmp c.args.transaction) in
    let flying = c.args.flying.now.entries in
    let new = c.push.new.self in
    if_refused c.push.result (λ (same : new ≡ c.in-Some.askers.now).
    (c.get_mut.follows.holds new).0
    ∙ ap (λ (l : List ℕ). set_value test flying l) same
    ∙ set_value_same test flying c.in-Some.askers.now (sym c.in-Some.ensures.value))
    c.push.ensures.err
