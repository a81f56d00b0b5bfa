use Rattle.std.proofs.Common.{rules}
use Rattle.hickory_resolver.proofs.resolver_builder.ResolverBuilder.options_mut.Goals as goal

pub returns : goal.returns
returns g c = search rules
