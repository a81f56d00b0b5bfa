use Rattle.hickory_resolver.proofs.Answering.{client_cache}
use Rattle.hickory_resolver.proofs.resolver.Resolver.alloc.Goals as goal

pub returns : goal.returns
returns g c = record { cache = client_cache _ _ _ c.self.view_is c.cache.ensures c.allocator.ensures.cache }
