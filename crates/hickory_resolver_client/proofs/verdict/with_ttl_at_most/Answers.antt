use Rattle.std.proofs.Common.{rules}
use Rattle.hickory_resolver_client.proofs.verdict.with_ttl_at_most.Goals as goal

pub returns-clause-ok : goal.returns-clause-ok
returns-clause-ok c = search rules
