use Rattle.std.proofs.Common.{rules}
use Rattle.hickory_resolver_client.proofs.client_state.ClientState.cache_answer.Goals as goal

pub returns-clause-settled : goal.returns-clause-settled
returns-clause-settled g c = search rules
