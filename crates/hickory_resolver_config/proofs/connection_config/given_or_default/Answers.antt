use Rattle.std.proofs.Common.{rules}
use Rattle.hickory_resolver_config.proofs.connection_config.given_or_default.Goals as goal

pub returns-in-Some-clause-ok : goal.returns-in-Some-clause-ok
returns-in-Some-clause-ok c = search rules
