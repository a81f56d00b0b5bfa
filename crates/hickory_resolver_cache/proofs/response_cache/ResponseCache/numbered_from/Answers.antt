use Rattle.std.proofs.Common.{◌∙◌, ap, ap₂, subst, sym}
use Rattle.std.specs.List.{AllByRecursion}
use Rattle.hickory_resolver_model.specs.Cache.{OutlivesNoAnswer}
use Rattle.hickory_resolver_cache.specs.Octets.{AreWeighed, most_of}
use Rattle.hickory_resolver_cache.proofs.Held.{most-none, weighed-none}
use Rattle.hickory_resolver_cache.proofs.Apart.{apart-none}
use Rattle.hickory_resolver_cache.proofs.Store.{entries-none, kept-empty}
use Rattle.hickory_resolver_cache.proofs.response_cache.ResponseCache.numbered_from.Goals as goal

pub invariant_of-result : goal.invariant_of-result
invariant_of-result g c = (
  record {
    kept = kept-empty c.args.capacity c.args.next_number c.with_hasher.result.entries c.new.result c.with_hasher.ensures.empty c.new.ensures.empty;
    apart = apart-none c.args.next_number c.with_hasher.result.entries c.with_hasher.ensures.empty;
    timely = subst (AllByRecursion (OutlivesNoAnswer c.args.ttl_config)) (sym (entries-none c.args.next_number c.with_hasher.result.entries c.with_hasher.ensures.empty)) tt;
  },
  subst (λ o. AreWeighed o c.args.next_number c.with_hasher.result.entries) (sym c.none_held.ensures) (weighed-none c.args.octets c.args.next_number c.with_hasher.result.entries c.with_hasher.ensures.empty),
)

pub returns : goal.returns
returns g c =
    ap₂ (λ o l. record { capacity = c.args.capacity; octets = o; config = c.args.ttl_config; entries = l }) (ap most_of c.none_held.ensures ∙ most-none c.args.octets)
    (entries-none c.args.next_number c.with_hasher.result.entries c.with_hasher.ensures.empty)
