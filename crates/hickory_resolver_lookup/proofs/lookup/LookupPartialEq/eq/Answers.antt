use Rattle.std.proofs.Common.{rules}
use Rattle.hickory_resolver_lookup.proofs.lookup.LookupPartialEq.eq.Goals as goal

pub returns-then-eq : goal.returns-then-eq
returns-then-eq c = search rules
