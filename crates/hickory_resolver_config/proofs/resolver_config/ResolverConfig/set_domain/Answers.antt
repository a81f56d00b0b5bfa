use Rattle.std.proofs.Common.{rules}
use Rattle.hickory_resolver_config.proofs.resolver_config.ResolverConfig.set_domain.Goals as goal

pub returns-clause-ok : goal.returns-clause-ok
returns-clause-ok c = search rules
