use Rattle.std.proofs.Common.{rules}
use Rattle.hickory_resolver_config.proofs.server_group.quad9.Goals as goal

pub returns-clause-ok : goal.returns-clause-ok
returns-clause-ok c = search rules
