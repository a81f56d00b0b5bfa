use Rattle.hickory_resolver.proofs.FirstCaches.{built_of}
use Rattle.hickory_resolver.proofs.resolver_builder.ResolverBuilder.build.Goals as goal

pub returns-in-Ok : goal.returns-in-Ok
returns-in-Ok g c =
    built_of c.args.self _ _ _ c.self.view_is c.in-Ok.cache c.in-Ok.ensures _ c.with_hasher-hosts.ensures
    _ c.new.ensures
