use Rattle.std.proofs.Common.{◌≡◌, List, ℕ, ap, sym, ◌∙◌}
use Rattle.std.specs.Ordering.{nat_cmp}
use Rattle.std.specs.Map.{set_value}
use Rattle.std.specs.BTreeMap.{is_at}
use Rattle.std.proofs.lemmas.Map.Steps.{set_value_same}
use Rattle.hickory_resolver_askers.specs.Askers.{WaitingValue}
use Rattle.hickory_resolver_askers.proofs.Refused.{if_refused}
use Rattle.hickory_resolver_askers.proofs.maps.push_waiting.Goals as goal

abbrev held_by : ℕ → List ℕ → WaitingValue
held_by until askers = record { until = until; askers = askers }

pub returns-in-Some-clause-err : goal.returns-in-Some-clause-err
returns-in-Some-clause-err c =
    let test = is_at (nat_cmp c.args.transaction) in
    let waiting = c.args.waiting.now.entries in
    let until = c.held.inside.until in
    if_refused c.push.result (λ (same : c.push.new.self ≡ c.held.inside.askers).
    (c.get_mut.follows.holds (held_by until c.push.new.self)).0
    ∙ ap (λ (l : List ℕ). set_value test waiting (held_by until l)) same
    ∙ ap (λ (w : WaitingValue). set_value test waiting w) c.held.view_is
    ∙ set_value_same test waiting c.in-Some.held.now (sym c.in-Some.ensures.value))
    c.push.ensures.err
