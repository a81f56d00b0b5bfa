use Rattle.std.proofs.Common.{rules}
use Rattle.hickory_resolver_client.proofs.results.as_outcome.Goals as goal

pub returns-in_ok-clone-in-Err-clause-ok : goal.returns-in_ok-clone-in-Err-clause-ok
returns-in_ok-clone-in-Err-clause-ok c = search rules
