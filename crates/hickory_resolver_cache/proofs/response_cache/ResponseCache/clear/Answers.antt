use Rattle.std.proofs.Common.{subst, sym}
use Rattle.hickory_resolver_cache.specs.Octets.{AreWeighed}
use Rattle.hickory_resolver_cache.proofs.Held.{weighed-none}
use Rattle.hickory_resolver_cache.proofs.Apart.{apart-none}
use Rattle.hickory_resolver_cache.proofs.Store.{kept-empty}
use Rattle.hickory_resolver_cache.proofs.response_cache.ResponseCache.clear.Goals as goal

pub invariant_of-self : goal.invariant_of-self
invariant_of-self g c = (
  record {
    kept = kept-empty c.self.inside.capacity 0 c.clear.new.self.entries c.clear-2.new.self c.clear.ensures.empty c.clear-2.ensures.empty;
    apart = apart-none 0 c.clear.new.self.entries c.clear.ensures.empty;
    timely = tt;
  },
  subst (λ o. AreWeighed o 0 c.clear.new.self.entries) (sym c.none_held-self-inside.ensures) (weighed-none c.most.result 0 c.clear.new.self.entries c.clear.ensures.empty),
)
