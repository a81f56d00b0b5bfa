use Rattle.std.proofs.Common.{rules}
use Rattle.hickory_resolver_lookup.proofs.lookup.hit_seconds.Goals as goal

pub returns-in-Some : goal.returns-in-Some
returns-in-Some c = search rules
