use Rattle.std.proofs.Common.{ℕ, ap, ◌∙◌}
use Rattle.std.specs.Prelude.{OnOk}
use Rattle.hickory_resolver_steps.specs.Steps.{FlyingState}
use Rattle.hickory_resolver_traffic.specs.Doing.{BeginsWith, round_of}
use Rattle.hickory_resolver_traffic.specs.Groups.{list_at}
use Rattle.hickory_resolver_traffic.specs.Table.{CurrentState}
use Rattle.hickory_resolver_traffic.specs.Traffic.{TrafficState}
use Rattle.hickory_resolver_traffic.specs.contracts.entry.Current as current
use Rattle.hickory_resolver_traffic.specs.contracts.traffic.Traffic as traffic
use Rattle.hickory_resolver_traffic.specs.declared.entry.Current.TheInside as of_current
use Rattle.hickory_resolver_traffic.specs.declared.entry.EntryParts.{EntryParts}
use Rattle.hickory_resolver_traffic.specs.declared.traffic.Traffic.TheInside as of_traffic
use Rattle.hickory_resolver_traffic.proofs.Refused.{along}
use Rattle.hickory_resolver_traffic.proofs.traffic.Traffic.begin_round.Goals as goal

pub returns-clause-begun : goal.returns-clause-begun
returns-clause-begun c =
    let begins : TrafficState → CurrentState → ℕ → FlyingState → Type 0 = λ t k list flying.
    OnOk c.begin_round.result (BeginsWith t.rules.strategy (round_of c.args.place (record { traffic = t; current = k }))
    (list_at list t.groups) flying c.begin_round.new.flying) in
    let is_traffic = ap (λ (i : of_traffic.Inside). traffic.the_view i) c.self-inside.view_is ∙ c.self.view_is in
    let is_current = ap (λ (i : of_current.Inside). current.the_view i) c.current-inside.view_is ∙ c.current.view_is in
    let is_list = ap (λ (p : EntryParts). p.asked.0) c.deref.ensures
    ∙ ap (λ (k : CurrentState). k.entry.asked.0) is_current in
    let is_flying = ap (λ (p : EntryParts). p.flying) c.deref_mut.ensures.value
    ∙ ap (λ (k : CurrentState). k.entry.flying) is_current in
    along (begins c.args.self.now c.args.current.now) is_list is_flying
    (along (λ (t : TrafficState) (k : CurrentState). begins t k c.deref.result.now.asked.0 c.deref_mut.result.now.flying)
    is_traffic is_current c.begin_round.ensures.begun)
