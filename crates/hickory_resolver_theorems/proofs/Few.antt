-- A look-up makes eight exchanges at most.
use Rattle.std.proofs.Common.{◌≡◌, ◌⊎◌, ◌≤◌, true, List, [], ◌∷◌, ◌++◌, length, ap, ◌∙◌, arith, length-append, inl, inr}
use Rattle.hickory_proto_core.specs.Handles.{holds_memory}
use Rattle.hickory_proto_core.specs.declared.query.Query.{Query}
use Rattle.hickory_proto_core.specs.declared.recorded.Exchange.{Exchange}
use Rattle.hickory_resolver_model.specs.Cache.{CacheValue}
use Rattle.hickory_resolver_model.specs.Lookup.{LookupResult}
use Rattle.hickory_resolver_model.specs.Verdict.{Hop}
use Rattle.hickory_resolver_model.specs.Hops.{LookupContext, ChainEnd, Special, Hit, Asked, HopList, IsCutInAsks, IsReplyOver, GoesUpstream, asks_of}

asks_of-few : (hop : Hop) (last : ChainEnd) → length (asks_of hop last) ≤ 1
asks_of-few hop (Special reply) = omega arith
asks_of-few hop (Hit entry) = omega arith
asks_of-few hop (Asked outcome) = omega arith

hops-few : (s : LookupContext) (caches : List CacheValue) (q : Query) (asks : List Exchange) → HopList s caches q asks → length asks ≤ 8
hops-few s caches q asks h = omega (arith, ap length h.asks_are ∙ length-append h.passed (asks_of h.last_hop h.last), h.short, asks_of-few h.last_hop h.last)

cut-few : (s : LookupContext) (caches : List CacheValue) (q : Query) (asks : List Exchange) (after : CacheValue) → IsCutInAsks s caches q asks after → length asks ≤ 8
cut-few s caches q asks after h = by h.asks_are
  where
    by : ((asks ≡ h.passed) × (caches ≡ h.before))
        ⊎ ((x : Exchange) × (cache : CacheValue) × GoesUpstream (record s { cache = cache }) h.last_hop.query × (x.query ≡ h.last_hop.query) × (holds_memory x.outcome ≡ true) × (asks ≡ h.passed ++ x ∷ []) × (caches ≡ h.before ++ cache ∷ [])) → length asks ≤ 8
    by (inl (e, same)) = omega (arith, ap length e, h.short)
    by (inr (x, cache, up, same, holds, e, are)) = omega (arith, ap length e ∙ length-append h.passed (x ∷ []), h.short)

pub few : (s : LookupContext) (caches : List CacheValue) (q : Query) (asks : List Exchange) (result : LookupResult) (after : CacheValue) → IsReplyOver s caches q asks result after → length asks ≤ 8
few s caches q asks result after (inl whole) = hops-few s caches q asks whole.hops
few s caches q asks result after (inr (e, inl cut)) = hops-few s caches q asks cut.hops
few s caches q asks result after (inr (e, inr cut)) = cut-few s caches q asks after cut
