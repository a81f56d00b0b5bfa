use Rattle.std.proofs.Common.{subst}
use Rattle.hickory_resolver_model.specs.Cache.{CacheValue, IsCache}
use Rattle.hickory_resolver_cache.proofs.Apart.{sound-cache}
use Rattle.hickory_resolver_cache.proofs.response_cache.ResponseCache.allocator.Goals as goal

pub returns : goal.returns
returns g c = record {
  cache = subst (λ (v : CacheValue). IsCache v.config v.capacity v.entries) c.self.view_is (sound-cache c.self.invariant.0);
}
