use Rattle.std.proofs.Common.{◌∙◌, sym, ap, subst, length, arith}
use Rattle.hickory_resolver_model.specs.Cache.{CacheValue, IsCache}
use Rattle.hickory_resolver_cache.proofs.Apart.{sound-cache}
use Rattle.hickory_resolver_cache.proofs.Store.{length-entries}
use Rattle.hickory_resolver_cache.proofs.response_cache.ResponseCache.len.Goals as goal

pub returns-clause-len : goal.returns-clause-len
returns-clause-len g c =
    c.len.ensures.len ∙ sym (length-entries c.self.inside.next_number c.self.inside.index.entries c.self.invariant.0.kept.numbers)
    ∙ ap (λ (v : CacheValue). length v.entries) c.self.view_is

pub returns-clause-within : goal.returns-clause-within
returns-clause-within g c =
    let cap = ap (λ (v : CacheValue). v.capacity) c.self.view_is in
    let n = c.len.ensures.len in
    let s = c.self.invariant.0.kept.short in
    omega (arith, cap, n, s)

pub returns-clause-cache : goal.returns-clause-cache
returns-clause-cache g c =
    subst (λ (v : CacheValue). IsCache v.config v.capacity v.entries) c.self.view_is (sound-cache c.self.invariant.0)
