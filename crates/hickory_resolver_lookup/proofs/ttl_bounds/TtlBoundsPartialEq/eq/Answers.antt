use Rattle.std.proofs.Common.{rules}
use Rattle.hickory_resolver_lookup.proofs.ttl_bounds.TtlBoundsPartialEq.eq.Goals as goal

pub returns-then-eq-3 : goal.returns-then-eq-3
returns-then-eq-3 c = search rules
