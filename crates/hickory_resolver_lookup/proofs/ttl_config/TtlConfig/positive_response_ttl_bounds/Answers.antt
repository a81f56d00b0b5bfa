use Rattle.std.proofs.Common.{rules}
use Rattle.hickory_resolver_lookup.proofs.ttl_config.TtlConfig.positive_response_ttl_bounds.Goals as goal

pub returns-clause-bounds : goal.returns-clause-bounds
returns-clause-bounds c = search rules
