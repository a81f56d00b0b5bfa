-- The caches of the hops of a look-up.
use Rattle.std.proofs.Common.{◌≡◌, false, List, [], ◌∷◌, ◌++◌, refl, sym, ap₂, if◌then◌else◌}
use Rattle.hickory_proto_core.specs.ResponseKind.{ResponseKind, Answer, Negative, Failed}
use Rattle.hickory_proto_core.specs.declared.recorded.Exchange.{Exchange}
use Rattle.hickory_resolver_model.specs.Cache.{CacheValue}
use Rattle.hickory_resolver_model.specs.Verdict.{Hop}
use Rattle.hickory_resolver_model.specs.Hops.{LookupContext, FollowsAliases, ChainEnd, Special, Hit, Asked, verdict_on, one_cache, is_asked, asks_of}

-- what a response is worth to a hop, whatever the cache
pub verdict-elsewhere : (s : LookupContext) (cache : CacheValue) (hop : Hop) (kind : ResponseKind) → verdict_on (record s { cache = cache }) hop kind ≡ verdict_on s hop kind
verdict-elsewhere s cache hop (Answer response) = refl
verdict-elsewhere s cache hop (Negative none) = refl
verdict-elsewhere s cache hop (Failed error) = refl

-- where all hops read one cache, so did those that led on, and those that were asked after them
pub one-before : (s : LookupContext) (before : List CacheValue) (hop : Hop) (xs : List Exchange) (last : Hop) (ys : List Exchange) (rest : List CacheValue) → FollowsAliases s before hop xs last → one_cache s (xs ++ ys) ≡ before ++ rest → (before ≡ one_cache s xs) × (rest ≡ one_cache s ys)
one-before s [] hop [] last ys rest leads e = (refl, sym e)
one-before s (cache ∷ caches) hop (x ∷ xs) last ys rest (next, p, leads) e =
    let own : cache ≡ s.cache = cc in
    let others : one_cache s (xs ++ ys) ≡ caches ++ rest = cc in
    let there = one-before s caches next xs last ys rest leads others in
    (ap₂ (λ c cs. c ∷ cs) own there.0, there.1)
one-before s [] hop (x ∷ xs) last ys rest never e = absurd never
one-before s (cache ∷ caches) hop [] last ys rest never e = absurd never

-- so did the last hop
pub last-read : (s : LookupContext) (hop : Hop) (last : ChainEnd) (cache : CacheValue) → (is_asked last ≡ false → cache ≡ s.cache) → (if is_asked last then cache ∷ [] else []) ≡ one_cache s (asks_of hop last) → cache ≡ s.cache
last-read s hop (Special reply) cache own e = own refl
last-read s hop (Hit entry) cache own e = own refl
last-read s hop (Asked outcome) cache own e = cc
