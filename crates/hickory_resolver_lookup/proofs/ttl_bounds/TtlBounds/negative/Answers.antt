use Rattle.std.proofs.Common.{rules}
use Rattle.hickory_resolver_lookup.proofs.ttl_bounds.TtlBounds.negative.Goals as goal

pub returns-clause-bounds : goal.returns-clause-bounds
returns-clause-bounds c = search rules
