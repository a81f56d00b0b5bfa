use Rattle.std.proofs.Common.{rules}
use Rattle.hickory_resolver_lookup.proofs.ttl_config.TtlConfig.positive_lifetime.Goals as goal

pub returns : goal.returns
returns c = search rules
