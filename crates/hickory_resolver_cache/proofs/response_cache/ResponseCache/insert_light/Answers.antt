use Rattle.std.proofs.Common.{ℕ, Result, IfOk, sym, subst}
use Rattle.std.specs.List.{AllByRecursion}
use Rattle.hickory_resolver_model.specs.Cache.{CacheValue, OutlivesNoAnswer}
use Rattle.hickory_resolver_cache.specs.Turns.{IsSameList, entries_of}
use Rattle.std.specs.declared.alloc.AllocError.{AllocError}
use Rattle.hickory_resolver_cache.proofs.Apart.{apart-insert_within}
use Rattle.hickory_resolver_cache.specs.Octets.{AreWeighed, most_of}
use Rattle.hickory_resolver_cache.proofs.Held.{weighed-same}
use Rattle.hickory_resolver_cache.proofs.Laws.{AreApart}
use Rattle.hickory_resolver_cache.proofs.Renumbered.{sound-same}
use Rattle.hickory_resolver_cache.proofs.Timely.{timely-insert_within}
use Rattle.hickory_resolver_cache.proofs.response_cache.ResponseCache.insert_light.Goals as goal

pub store_within-requires-clause-weighed : goal.store_within-requires-clause-weighed
store_within-requires-clause-weighed g c =
    let rs = c.next_number.new.index.entries in
    let same = subst (λ (r : Result ℕ AllocError). IfOk r (λ n. IsSameList c.self.inside.index.entries c.self.inside.next_number rs n c.next_number.new.order)) c.in-Ok.is c.next_number.ensures.ok in
    weighed-same c.self.inside.octets c.self.inside.next_number c.in-Ok.number c.self.inside.index.entries rs c.next_number.new.order c.self.invariant.1 same

pub invariant_of-self-2 : goal.invariant_of-self-2
invariant_of-self-2 g c =
    let config = c.self.inside.ttl_config in
    let cap = c.self.inside.capacity in
    let octets = most_of c.self.inside.octets in
    let number = c.in-Ok.number in
    let rs = c.next_number.new.index.entries in
    let same = subst (λ (r : Result ℕ AllocError). IfOk r (λ n. IsSameList c.self.inside.index.entries c.self.inside.next_number rs n c.next_number.new.order)) c.in-Ok.is c.next_number.ensures.ok in
    let before = sound-same config cap c.self.inside.next_number number c.self.inside.index.entries rs c.next_number.new.order c.self.invariant.0 same in
    let own = subst (λ (v : CacheValue). OutlivesNoAnswer v.config c.args.entry) (sym c.self.view_is) c.requires.timely in (
      record {
        kept = c.in_ok-store_within.ensures.kept;
        apart = subst AreApart (sym c.in_ok-store_within.ensures.entries) (apart-insert_within octets cap (entries_of rs number) c.args.entry before.apart);
        timely = subst (AllByRecursion (OutlivesNoAnswer config)) (sym c.in_ok-store_within.ensures.entries) (timely-insert_within config octets cap (entries_of rs number) c.args.entry before.timely own);
      },
      c.in_ok-store_within.ensures.weighed,
    )

pub invariant_of-self-in_err-store_within : goal.invariant_of-self-in_err-store_within
invariant_of-self-in_err-store_within g c =
    let next = c.self.inside.next_number in
    let number = c.in-Ok.number in
    let ps = c.self.inside.index.entries in
    let rs = c.next_number.new.index.entries in
    let qs = c.store_within.new.index.entries in
    let same = subst (λ (r : Result ℕ AllocError). IfOk r (λ n. IsSameList ps next rs n c.next_number.new.order)) c.in-Ok.is c.next_number.ensures.ok in
    let before = sound-same c.self.inside.ttl_config c.self.inside.capacity next number ps rs c.next_number.new.order c.self.invariant.0 same in
    let weighed = weighed-same c.self.inside.octets next number ps rs c.next_number.new.order c.self.invariant.1 same in
    let refused = c.in_err-store_within.ensures.refused in (
      sound-same c.self.inside.ttl_config c.self.inside.capacity number number rs qs c.store_within.new.order before refused,
      subst (λ o. AreWeighed o number qs) (sym c.in_err-store_within.ensures.unchanged) (weighed-same c.self.inside.octets number number rs qs c.store_within.new.order weighed refused),
    )
