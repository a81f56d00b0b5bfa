use Rattle.std.proofs.Common.{rules}
use Rattle.hickory_resolver.proofs.resolver.Resolver.smimea_lookup.Goals as goal

pub returns : goal.returns
returns g c = search rules
