use Rattle.std.proofs.Common.{subst}
use Rattle.hickory_resolver_model.specs.Cache.{CacheValue, IsCache}
use Rattle.hickory_resolver_cache.proofs.Apart.{sound-cache}
use Rattle.hickory_resolver_cache.proofs.response_cache.ResponseCache.entry_of.Goals as goal

pub returns-then-self-eq0-clause-cache : goal.returns-then-self-eq0-clause-cache
returns-then-self-eq0-clause-cache g c =
    subst (λ (v : CacheValue). IsCache v.config v.capacity v.entries) c.self.view_is (sound-cache c.self.invariant.0)
