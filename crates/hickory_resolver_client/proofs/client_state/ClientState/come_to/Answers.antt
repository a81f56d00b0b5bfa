use Rattle.std.proofs.Common.{refl, subst}
use Rattle.hickory_resolver_model.specs.Cache.{current, IsGotUntil}
use Rattle.hickory_resolver_client.specs.Contexts.{ClientStateValue, state_context}
use Rattle.hickory_resolver_client.proofs.Progressing.{comes_to_special, comes_to_hit, not_special, missed}
use Rattle.hickory_resolver_client.proofs.client_state.ClientState.come_to.Goals as goal

pub returns-in-Some-clause-comes : goal.returns-in-Some-clause-comes
returns-in-Some-clause-comes g c =
    rw (← c.hop.view_is) (comes_to_special (state_context c.args.self.now c.args.now) c.args.passed.items _ _ _ _ c.in-Some.result c.in-Some.is c.special_use_result.ensures c.finish.ensures.finished)

pub returns-in-Some-get_with_deadline-clause-comes : goal.returns-in-Some-get_with_deadline-clause-comes
returns-in-Some-get_with_deadline-clause-comes g c =
    let got = subst (λ (v : ClientStateValue). IsGotUntil (current c.hop.inside.query c.args.now v.cache.entries) c.args.now c.get_with_deadline.result) c.self.view_is c.get_with_deadline.ensures in
    rw (← c.hop.view_is)
    (comes_to_hit (state_context c.args.self.now c.args.now) c.args.passed.items _ _ _ (not_special _ _ c.in_default.not-Some c.special_use_result.ensures) _ c.in-Some-get_with_deadline.hit c.in-Some-get_with_deadline.deadline c.in-Some-get_with_deadline.is got _ c.lookup_of_hit-result.ensures c.finish-in-Some-get_with_deadline.ensures.finished)

pub returns-clause-comes : goal.returns-clause-comes
returns-clause-comes g c =
    rw (← c.hop.view_is, ← c.self.view_is)
    ((not_special _ _ c.in_default.not-Some c.special_use_result.ensures, missed _ _ _ c.in_default-get_with_deadline.not-Some c.get_with_deadline.ensures), refl, refl)
