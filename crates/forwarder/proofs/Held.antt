-- Why the zone stays, and why a question that the cache has is not asked.
use Rattle.std.proofs.Common.{◌≡◌, ◌⊎◌, ◌∙◌, ℕ, true, if◌then◌else◌, List, [], ◌∷◌, ◌++◌, length, Some, refl, sym, ap, subst, inl, inr}
use Rattle.hickory_proto_core.specs.Handles.{Leads, Leads-keeps, OutcomeValue, holds_memory}
use Rattle.hickory_proto_core.specs.declared.query.Query.{Query}
use Rattle.hickory_proto_core.specs.declared.dns_request.DnsRequest.{DnsRequest}
use Rattle.hickory_proto_core.specs.declared.dns_request.DnsRequestOptions.{DnsRequestOptions}
use Rattle.hickory_proto_core.specs.declared.recorded.Exchange.{Exchange}
use Rattle.hickory_resolver.specs.Cache.{CacheValue, Entry, current}
use Rattle.hickory_resolver.specs.Client.{ClientValue, IsLookup, context_of}
use Rattle.hickory_resolver.specs.Hops.{Asked, ChainEnd, FollowsAliases, GoesUpstream, Hit, IsChainEnd, IsReply, LookupContext, Special, asks_of, is_asked, one_cache}
use Rattle.hickory_resolver.specs.Lookup.{LookupResult}
use Rattle.hickory_resolver.specs.Verdict.{Hop, first_hop}
use Rattle.forwarder.specs.Zone.{IsSameZone, ZoneStep, ZoneValue}

-- what each question keeps, all questions of a look-up keep
pub zone_stays : (options : DnsRequestOptions) (now : ℕ) (before after : ClientValue ZoneValue) (q : Query) (result : LookupResult)
    → IsLookup ZoneStep options now before q result after → IsSameZone before.handle after.handle
zone_stays options now before after q result looked =
    Leads-keeps ZoneStep options (IsSameZone before.handle) kept before.handle after.handle looked.asks looked.led (record { records_are = refl; soa_is = refl })
  where
    kept : (mid : ZoneValue) (request : DnsRequest) (outcome : OutcomeValue) (next : ZoneValue) → IsSameZone mid next → IsSameZone before.handle mid → IsSameZone before.handle next
    kept mid request outcome next stays so_far = record { records_are = stays.records_are ∙ so_far.records_are; soa_is = stays.soa_is ∙ so_far.soa_is }

-- a question with a current entry does not go upstream
held : (s : LookupContext) (q : Query) (entry : Entry) → current q s.now s.cache.entries ≡ Some entry → GoesUpstream s q → ⊥
held s q entry has (special, none) = absurd (let clash = sym none ∙ has in cc)

-- the first of the caches that were read stands as it was
same_cache : (s : LookupContext) (asks : List Exchange) (x : Exchange) (cache : CacheValue) → asks ≡ x ∷ [] → one_cache s asks ≡ cache ∷ [] → cache ≡ s.cache
same_cache s asks x cache are read = let e = sym read ∙ ap (one_cache s) are in cc

-- so its look-up has one hop, and that one is not asked
unasked : (s : LookupContext) (q : Query) (entry : Entry) (asks : List Exchange) (before : List CacheValue) (passed : List Exchange) (last : Hop) (end : ChainEnd) (cache : CacheValue) → current q s.now s.cache.entries ≡ Some entry
    → FollowsAliases s before (first_hop q) passed last → IsChainEnd (record s { cache = cache }) (length passed) last end → asks ≡ passed ++ asks_of last end → one_cache s asks ≡ before ++ (if is_asked end then cache ∷ [] else []) → asks ≡ []
unasked s q entry asks [] [] last (Special reply) cache has leads ends are read = are
unasked s q entry asks [] [] last (Hit found) cache has leads ends are read = are
unasked s q entry asks [] [] last (Asked outcome) cache has leads (upstream, alias) are read =
    absurd (held s q entry has (subst (λ c. GoesUpstream (record s { cache = c }) q) (same_cache s asks _ cache are read) (subst (λ hop. GoesUpstream (record s { cache = cache }) hop.query) leads upstream)))
unasked s q entry asks (c ∷ cs) (x ∷ xs) last end cache has (next, alias, rest) ends are read =
    let same : c ≡ s.cache = (let e = sym read ∙ ap (one_cache s) are in cc) in
    absurd (held s q entry has (subst (λ d. GoesUpstream (record s { cache = d }) q) same alias.upstream))
unasked s q entry asks (c ∷ cs) [] last end cache has never ends are read = absurd never
unasked s q entry asks [] (x ∷ xs) last end cache has never ends are read = absurd never

-- nor is it where memory runs out on the way
cut_unasked : (s : LookupContext) (q : Query) (entry : Entry) (asks : List Exchange) (before : List CacheValue) (passed : List Exchange) (last : Hop) → current q s.now s.cache.entries ≡ Some entry
    → FollowsAliases s before (first_hop q) passed last
    → ((asks ≡ passed) × (one_cache s asks ≡ before)) ⊎ ((x : Exchange) × (cache : CacheValue) × GoesUpstream (record s { cache = cache }) last.query × (x.query ≡ last.query) × (holds_memory x.outcome ≡ true) × (asks ≡ passed ++ x ∷ []) × (one_cache s asks ≡ before ++ cache ∷ [])) → asks ≡ []
cut_unasked s q entry asks [] [] last has leads (inl (none, read)) = none
cut_unasked s q entry asks [] [] last has leads (inr (x, cache, upstream, same, holds, are, read)) =
    absurd (held s q entry has (subst (λ c. GoesUpstream (record s { cache = c }) q) (same_cache s asks x cache are read) (subst (λ hop. GoesUpstream (record s { cache = cache }) hop.query) leads upstream)))
cut_unasked s q entry asks (c ∷ cs) (x ∷ xs) last has (next, alias, rest) (inl (are, read)) =
    let same : c ≡ s.cache = (let e = sym read ∙ ap (one_cache s) are in cc) in
    absurd (held s q entry has (subst (λ d. GoesUpstream (record s { cache = d }) q) same alias.upstream))
cut_unasked s q entry asks (c ∷ cs) (x ∷ xs) last has (next, alias, rest) (inr (y, cache, upstream, asked, holds, are, read)) =
    let same : c ≡ s.cache = (let e = sym read ∙ ap (one_cache s) are in cc) in
    absurd (held s q entry has (subst (λ d. GoesUpstream (record s { cache = d }) q) same alias.upstream))
cut_unasked s q entry asks (c ∷ cs) [] last has never cause = absurd never
cut_unasked s q entry asks [] (x ∷ xs) last has never cause = absurd never

none_asked : (s : LookupContext) (q : Query) (entry : Entry) (asks : List Exchange) (result : LookupResult) (after : CacheValue) → current q s.now s.cache.entries ≡ Some entry
    → IsReply s q asks result after → asks ≡ []
none_asked s q entry asks result after has (inl whole) =
    let h = whole.hops in
    unasked s q entry asks h.before h.passed h.last_hop h.last h.last_cache has h.leads h.ends h.asks_are h.caches_are
none_asked s q entry asks result after has (inr (out, inl cut)) =
    let h = cut.hops in
    unasked s q entry asks h.before h.passed h.last_hop h.last h.last_cache has h.leads h.ends h.asks_are h.caches_are
none_asked s q entry asks result after has (inr (out, inr cut)) =
    cut_unasked s q entry asks cut.before cut.passed cut.last_hop has cut.leads cut.asks_are

pub within_ttl : (options : DnsRequestOptions) (now : ℕ) (before after : ClientValue ZoneValue) (q : Query) (result : LookupResult) (entry : Entry)
    → current q now before.cache.entries ≡ Some entry → IsLookup ZoneStep options now before q result after → after.handle ≡ before.handle
within_ttl options now before after q result entry has looked =
    let none = none_asked (context_of before now) q entry looked.asks result after.cache has looked.reply in
    subst (λ asks. Leads ZoneStep options before.handle asks after.handle) none looked.led
