use Rattle.std.proofs.Common.{sym, subst}
use Rattle.hickory_resolver_client.specs.Contexts.{ClientStateValue}
use Rattle.hickory_resolver_theorems.specs.CallFacts.{KeepsWhatIsKnown}
use Rattle.hickory_resolver_theorems.proofs.PromisedCalls.{without_query-keeps}
use Rattle.hickory_resolver_client.proofs.client_state.ClientState.clear_cache_query.Goals as goal

pub returns-clause-keeps : goal.returns-clause-keeps
returns-clause-keeps g c =
    subst (λ (v : ClientStateValue). KeepsWhatIsKnown v.cache c.clear_query.new.self) c.self.view_is
    (subst (KeepsWhatIsKnown c.self.inside.cache) (sym c.clear_query.ensures) (without_query-keeps c.self.inside.cache c.args.query.now))
