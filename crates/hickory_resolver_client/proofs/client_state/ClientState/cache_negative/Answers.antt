use Rattle.std.proofs.Common.{rules}
use Rattle.hickory_resolver_client.proofs.client_state.ClientState.cache_negative.Goals as goal

pub returns-clause-stays : goal.returns-clause-stays
returns-clause-stays g c = search rules
