-- A look-up that goes on step by step comes to what the hops of its question say.
use Rattle.std.proofs.Common.{◌≡◌, ◌⊎◌, ◌≤◌, ◌<◌, ℕ, Bool, true, false, List, [], ◌∷◌, ◌++◌, length, map, Some, Ok, Err, refl, sym, ap, ap₂, ◌∙◌, subst, arith, inl, inr, length-append, if◌then◌else◌}
use Rattle.std.proofs.lemmas.List.{map-append, append-nil, length-map}
use Rattle.std.specs.List.{AllByRecursion}
use Rattle.hickory_proto_core.specs.Handles.{OutcomeValue}
use Rattle.hickory_proto_core.specs.Messages.{MessageValue}
use Rattle.hickory_proto_core.specs.ResponseKind.{ResponseKind, Answer, Negative, Failed, kind_of}
use Rattle.hickory_proto_core.specs.declared.query.Query.{Query}
use Rattle.hickory_proto_core.specs.declared.recorded.Exchange.{Exchange}
use Rattle.hickory_proto_core.specs.declared.net_error.NetError.TheVariants.{Message, Timeout, Proto, Dns, NoOutcome, Bounds, OutOfMemory}
use Rattle.hickory_proto_core.specs.declared.net_error.DnsError.TheVariants.{ResponseCode, NoRecordsFound}
use Rattle.hickory_resolver_model.specs.Cache.{CacheValue}
use Rattle.hickory_resolver_model.specs.Lookup.{LookupResult}
use Rattle.hickory_resolver_model.specs.Verdict.{Hop, Verdict, Accepted, LeadsTo, NoMatch, first_hop, verdict}
use Rattle.hickory_resolver_model.specs.AliasWalk.{walk_of}
use Rattle.hickory_resolver_model.specs.Hops.{IsBeginning, LookupContext, GoesUpstream, IsAliasHop, FollowsAliases, ChainEnd, Special, Hit, Asked, IsChainEnd, HopList, IsReplyOver, Store, PassedValue, passed_by, passed_of, verdict_on, result_of, result_when_asked, result_of_verdict, asks_of, alias_limit, alias_deadline, earliest, end_limit, limit_of, is_asked, last_stores, earlier_store, earlier_stores, stores_of, after_store, after_stores, is_kept}
use Rattle.hickory_resolver_model.specs.Resuming.{ProgressValue, Waits, IsDone, TakesMemory, EndsAs, ComesTo, FollowsAlias, IsEndedBy, Resumes}
use Rattle.hickory_resolver_theorems.specs.Interleaved.{PendingValue, asks_with, caches_with}
use Rattle.hickory_resolver_theorems.proofs.Lists.{all-append, all-front}
use Rattle.hickory_resolver_theorems.proofs.OneCache.{verdict-elsewhere}

-- ---- what is kept of the questions that were asked

pub passed_of-length : (s : LookupContext) (xs : List Exchange) → length (passed_of s xs) ≡ length xs
passed_of-length s xs = length-map xs (λ x. passed_by s x.query x.outcome)

-- one question more
pub passed_of-more : (s : LookupContext) (xs : List Exchange) (x : Exchange) (q : Query) → x.query ≡ q → passed_of s (xs ++ x ∷ []) ≡ passed_of s xs ++ passed_by s q x.outcome ∷ []
passed_of-more s xs x q asked = map-append (λ y. passed_by s y.query y.outcome) xs (x ∷ []) ∙ ap (λ own. passed_of s xs ++ passed_by s own x.outcome ∷ []) asked

-- ---- a result that is not kept

-- nothing is stored of it
kept-nothing : (now : ℕ) (q : Query) (result : LookupResult) (limit : ℕ) → is_kept result ≡ false → (cache : CacheValue) → after_store (earlier_store result now q limit) cache ≡ cache
kept-nothing now q (Ok l) limit no_result cache = cc
kept-nothing now q (Err (Dns (NoRecordsFound n))) limit no_result cache = cc
kept-nothing now q (Err (Dns (ResponseCode code))) limit no_result cache = refl
kept-nothing now q (Err (Message text)) limit no_result cache = refl
kept-nothing now q (Err Timeout) limit no_result cache = refl
kept-nothing now q (Err (Proto error)) limit no_result cache = refl
kept-nothing now q (Err NoOutcome) limit no_result cache = refl
kept-nothing now q (Err (Bounds error)) limit no_result cache = refl
kept-nothing now q (Err OutOfMemory) limit no_result cache = refl

abbrev StoresNothing : Store → Type 0
StoresNothing store = (cache : CacheValue) → after_store store cache ≡ cache

back-nothing : (result : LookupResult) (now limit : ℕ) (ps : List PassedValue) → is_kept result ≡ false → AllByRecursion StoresNothing (earlier_stores result now limit ps)
back-nothing result now limit [] no_result = tt
back-nothing result now limit (p ∷ ps) no_result =
    all-append StoresNothing (earlier_stores result now limit ps) (earlier_store result now p.query (limit_of (p ∷ ps) limit) ∷ []) (back-nothing result now limit ps no_result)
    (kept-nothing now p.query result (limit_of (p ∷ ps) limit) no_result, tt)

after-nothing : (stores : List Store) (cache : CacheValue) → AllByRecursion StoresNothing stores → after_stores stores cache ≡ cache
after-nothing [] cache all = refl
after-nothing (store ∷ stores) cache (one, all) = after-nothing stores (after_store store cache) all ∙ one cache

-- what is made of an outcome is kept, where making it takes memory
kept-asked : (s : LookupContext) (hop : Hop) (outcome : OutcomeValue) → TakesMemory (Asked outcome) → is_kept (result_of s hop (Asked outcome)) ≡ true
kept-asked s hop outcome takes = by (kind_of outcome) takes
  where
    on : (m : MessageValue) (v : Verdict) → is_kept (result_of_verdict s.cache.config hop.query s.now m v) ≡ true
    on m (Accepted found) = refl
    on m (LeadsTo next) = refl
    on m NoMatch = refl

    by : (kind : ResponseKind) → ((error : _) → kind ≡ Failed error → ⊥) → is_kept (result_when_asked s hop kind) ≡ true
    by (Answer m) none = on m (verdict s.preserve_intermediates hop m)
    by (Negative n) none = refl
    by (Failed error) none = absurd (none error refl)

-- ---- an end

-- A look-up came to a hop by these exchanges, and knows what is to be kept of each.
pub record HasPassed (s : LookupContext) (question : Query) (xs : List Exchange) (caches : List CacheValue) (passed : List PassedValue) (hop : Hop) : Type 0 where
  pub leads : FollowsAliases s caches (first_hop question) xs hop
  pub short : length xs ≤ 7
  pub passed_are : passed ≡ passed_of s xs

-- memory ran out among exchanges that all led on
cut-answered : (s : LookupContext) (question : Query) (xs : List Exchange) (caches : List CacheValue) (hop : Hop) (result : LookupResult) (after : CacheValue)
    → FollowsAliases s caches (first_hop question) xs hop → length xs ≤ 7 → result ≡ Err OutOfMemory → after ≡ s.cache → IsReplyOver s caches question xs result after
cut-answered s question xs caches hop result after leads short out same =
    inr (out, inr (record { before = caches; passed = xs; last_hop = hop; leads = leads; short = short; asks_are = inl (refl, refl); after_is = same }))

module _ (s : LookupContext) (question : Query) (xs : List Exchange) (caches : List CacheValue) (hop : Hop) (leads : FollowsAliases s caches (first_hop question) xs hop) (short : length xs ≤ 7) (result : LookupResult) (after : CacheValue) where
  abbrev read : ChainEnd → CacheValue → List CacheValue
  read last cache = caches ++ (if is_asked last then cache ∷ [] else [])

  abbrev hops : (last : ChainEnd) (cache : CacheValue) → IsChainEnd (record s { cache = cache }) (length xs) hop last → (is_asked last ≡ false → cache ≡ s.cache) → HopList s (read last cache) question (xs ++ asks_of hop last)
  hops last cache ends own = record {
    before = caches;
    passed = xs;
    last_hop = hop;
    last = last;
    last_cache = cache;
    leads = leads;
    short = short;
    ends = ends;
    at_once = own;
    asks_are = refl;
    caches_are = refl;
  }

  -- all stores were made; or a beginning of those of a result that is kept
  kept-answered : (last : ChainEnd) (cache : CacheValue) → IsChainEnd (record s { cache = cache }) (length xs) hop last → (is_asked last ≡ false → cache ≡ s.cache) → is_kept (result_of s hop last) ≡ true → EndsAs s (passed_of s xs) hop last result after
      → IsReplyOver s (read last cache) question (xs ++ asks_of hop last) result after
  kept-answered last cache ends own kept (inl (result_is, after_is)) = inl (record { hops = hops last cache ends own; result_is = result_is; after_is = after_is })
  kept-answered last cache ends own kept (inr (out, takes, begun)) = inr (out, inl (record { hops = hops last cache ends own; kept = kept; begun = begun }))

  -- where nothing is kept of the result, nothing was stored
  unkept-same : (last : ChainEnd) → last_stores s hop last ≡ [] → is_kept (result_of s hop last) ≡ false → IsBeginning (stores_of s (passed_of s xs) hop last) s.cache after → after ≡ s.cache
  unkept-same last none unkept begun =
      begun.after_is ∙ after-nothing begun.front s.cache
      (all-front StoresNothing begun.front begun.back
      (subst (AllByRecursion StoresNothing) (ap (λ stores. stores ++ earlier_stores (result_of s hop last) s.now (end_limit s hop last) (passed_of s xs)) (sym none) ∙ sym begun.parts)
      (back-nothing (result_of s hop last) s.now (end_limit s hop last) (passed_of s xs) unkept)))

  -- it ends where it asks nothing
  at_once-answered : (last : ChainEnd) → last_stores s hop last ≡ [] → IsChainEnd s (length xs) hop last → EndsAs s (passed_of s xs) hop last result after → (b : Bool) → is_kept (result_of s hop last) ≡ b
      → IsReplyOver s (read last s.cache) question (xs ++ asks_of hop last) result after ⊎ IsReplyOver s caches question xs result after
  at_once-answered last none ends (inl (result_is, after_is)) b e = inl (inl (record { hops = hops last s.cache ends (λ own. refl); result_is = result_is; after_is = after_is }))
  at_once-answered last none ends (inr out) true e = inl (kept-answered last s.cache ends (λ own. refl) e (inr out))
  at_once-answered last none ends (inr (out, takes, begun)) false e = inr (cut-answered s question xs caches hop result after leads short out (unkept-same last none e begun))

  not-asked : IsReplyOver s (caches ++ []) question (xs ++ []) result after ⊎ IsReplyOver s caches question xs result after → IsReplyOver s caches question xs result after
  not-asked (inl is) = subst (λ ys. IsReplyOver s caches question ys result after) (append-nil xs) (subst (λ cs. IsReplyOver s cs question (xs ++ []) result after) (append-nil caches) is)
  not-asked (inr is) = is

  unasked-answered : (last : ChainEnd) → is_asked last ≡ false → IsChainEnd s (length xs) hop last → EndsAs s (passed_of s xs) hop last result after → IsReplyOver s caches question xs result after
  unasked-answered (Special reply) unasked ends how = not-asked (at_once-answered (Special reply) refl ends how (is_kept (result_of s hop (Special reply))) refl)
  unasked-answered (Hit entry) unasked ends how = not-asked (at_once-answered (Hit entry) refl ends how (is_kept (result_of s hop (Hit entry))) refl)
  unasked-answered (Asked outcome) unasked ends how = cc

  -- it ends with what came back
  asked-answered : (outcome : OutcomeValue) (cache : CacheValue) → IsChainEnd (record s { cache = cache }) (length xs) hop (Asked outcome) → EndsAs s (passed_of s xs) hop (Asked outcome) result after
      → IsReplyOver s (caches ++ cache ∷ []) question (xs ++ record { query = hop.query; outcome = outcome } ∷ []) result after
  asked-answered outcome cache ends (inl (result_is, after_is)) = inl (record { hops = hops (Asked outcome) cache ends (λ e. cc); result_is = result_is; after_is = after_is })
  asked-answered outcome cache ends (inr (out, takes, begun)) = kept-answered (Asked outcome) cache ends (λ e. cc) (kept-asked s hop outcome takes) (inr (out, takes, begun))

-- ---- a look-up in flight

-- it came to the hop at which it waits, and that hop's question went upstream when it was taken
pub record IsInFlight (s : LookupContext) (p : PendingValue) : Type 0 where
  pub passed : HasPassed s p.question p.asks p.caches p.waiting.passed p.waiting.hop
  pub upstream : GoesUpstream (record s { cache = p.cache }) p.waiting.hop.query

-- with what it was asked, what was exchanged and the caches that were read, it waits or is answered
abbrev pub IsOnItsWay : LookupContext → Query → List Exchange → List CacheValue → ProgressValue → CacheValue → Type 0
IsOnItsWay s question asks caches (Waits w) after =
    IsInFlight s (record { question = question; asks = asks; caches = caches; cache = s.cache; waiting = w }) × (w.now ≡ s.now) × (after ≡ s.cache)
IsOnItsWay s question asks caches (IsDone result) after = IsReplyOver s caches question asks result after

come : (s : LookupContext) (question : Query) (xs : List Exchange) (caches : List CacheValue) (passed : List PassedValue) (hop : Hop) (progress : ProgressValue) (after : CacheValue) → HasPassed s question xs caches passed hop → ComesTo s passed hop progress after → IsOnItsWay s question xs caches progress after
come s question xs caches passed hop (Waits w) after has (up, w_is, same) = (
  subst (λ v. IsInFlight s (record { question = question; asks = xs; caches = caches; cache = s.cache; waiting = v })) (sym w_is) (record { passed = has; upstream = up }),
  ap (λ v. v.now) w_is,
  same,
)
come s question xs caches passed hop (IsDone result) after has (last, unasked, ends, how) =
    unasked-answered s question xs caches hop has.leads has.short result after last unasked
    (subst (λ n. IsChainEnd s n hop last) (ap length has.passed_are ∙ passed_of-length s xs) ends)
    (subst (λ ps. EndsAs s ps hop last result after) has.passed_are how)

pub started : (s : LookupContext) (question : Query) (progress : ProgressValue) (after : CacheValue) → ComesTo s [] (first_hop question) progress after → IsOnItsWay s question [] [] progress after
started s question progress after is = come s question [] [] [] (first_hop question) progress after (record { leads = refl; short = omega arith; passed_are = refl }) is

-- one alias more
follows-more : (s : LookupContext) (caches : List CacheValue) (hop : Hop) (xs : List Exchange) (mid : Hop) (cache : CacheValue) (x : Exchange) (next : Hop) → FollowsAliases s caches hop xs mid → IsAliasHop (record s { cache = cache }) mid x next
    → FollowsAliases s (caches ++ cache ∷ []) hop (xs ++ x ∷ []) next
follows-more s [] hop [] mid cache x next e is = (next, subst (λ h. IsAliasHop (record s { cache = cache }) h x next) e is, refl)
follows-more s (c ∷ cs) hop (y ∷ ys) mid cache x next (there, p, rest) is = (there, p, follows-more s cs there ys mid cache x next rest is)
follows-more s [] hop (y ∷ ys) mid cache x next never is = absurd never
follows-more s (c ∷ cs) hop [] mid cache x next never is = absurd never

pub resumed : (s : LookupContext) (p : PendingValue) (outcome : OutcomeValue) (progress : ProgressValue) (after : CacheValue) → IsInFlight s p → Resumes s p.waiting outcome progress after → IsOnItsWay s p.question (asks_with p outcome) (caches_with p) progress after
resumed s p outcome progress after is = by
  where
    hop : Hop
    hop = p.waiting.hop

    x : Exchange
    x = record { query = hop.query; outcome = outcome }

    count : length p.waiting.passed ≡ length p.asks
    count = ap length is.passed.passed_are ∙ passed_of-length s p.asks

    has : (next : Hop) → verdict_on s hop (kind_of outcome) ≡ Some (LeadsTo next) → length p.waiting.passed < 7
        → HasPassed s p.question (p.asks ++ x ∷ []) (p.caches ++ p.cache ∷ []) (p.waiting.passed ++ passed_by s hop.query outcome ∷ []) next
    has next alias early = record {
      leads = follows-more s p.caches (first_hop p.question) p.asks hop p.cache x next is.passed.leads (record { upstream = is.upstream; asked = refl; alias = verdict-elsewhere s p.cache hop (kind_of outcome) ∙ alias });
      short = omega (arith, early, count, length-append p.asks (x ∷ []));
      passed_are = ap (λ ps. ps ++ passed_by s hop.query outcome ∷ []) is.passed.passed_are ∙ sym (passed_of-more s p.asks x hop.query refl);
    }

    on : (next : Hop) → HasPassed s p.question (p.asks ++ x ∷ []) (p.caches ++ p.cache ∷ []) (p.waiting.passed ++ passed_by s hop.query outcome ∷ []) next
        → ComesTo s (p.waiting.passed ++ passed_by s hop.query outcome ∷ []) next progress after ⊎ ((progress ≡ IsDone (Err OutOfMemory)) × (after ≡ s.cache))
        → IsOnItsWay s p.question (p.asks ++ x ∷ []) (p.caches ++ p.cache ∷ []) progress after
    on next there (inl comes) = come s p.question (p.asks ++ x ∷ []) (p.caches ++ p.cache ∷ []) (p.waiting.passed ++ passed_by s hop.query outcome ∷ []) next progress after there comes
    on next there (inr (done, same)) =
        subst (λ g. IsOnItsWay s p.question (p.asks ++ x ∷ []) (p.caches ++ p.cache ∷ []) g after) (sym done)
        (cut-answered s p.question (p.asks ++ x ∷ []) (p.caches ++ p.cache ∷ []) next (Err OutOfMemory) after there.leads there.short refl same)

    ended : IsEndedBy s p.waiting outcome progress after → IsOnItsWay s p.question (p.asks ++ x ∷ []) (p.caches ++ p.cache ∷ []) progress after
    ended e =
        subst (λ g. IsOnItsWay s p.question (p.asks ++ x ∷ []) (p.caches ++ p.cache ∷ []) g after) (sym e.progress_is)
        (asked-answered s p.question p.asks p.caches hop is.passed.leads is.passed.short e.result after outcome p.cache
        (is.upstream, λ next alias. sym count ∙ e.no_alias next (sym (verdict-elsewhere s p.cache hop (kind_of outcome)) ∙ alias))
        (subst (λ ps. EndsAs s ps hop (Asked outcome) e.result after) is.passed.passed_are e.ends))

    by : FollowsAlias s p.waiting outcome progress after ⊎ IsEndedBy s p.waiting outcome progress after → IsOnItsWay s p.question (p.asks ++ x ∷ []) (p.caches ++ p.cache ∷ []) progress after
    by (inl f) = on f.next (has f.next f.alias f.early) f.goes_on
    by (inr e) = ended e

-- ---- over another cache with the same bounds

limit-elsewhere : (s : LookupContext) (cache : CacheValue) (q : Query) (kind : ResponseKind) → cache.config ≡ s.cache.config → alias_limit s q kind ≡ alias_limit (record s { cache = cache }) q kind
limit-elsewhere s cache q (Answer response) same = ap (λ config. earliest (map (alias_deadline config s.now) (walk_of q response.answers).alias_ttls)) (sym same)
limit-elsewhere s cache q (Negative none) same = refl
limit-elsewhere s cache q (Failed error) same = refl

passed-elsewhere : (s : LookupContext) (cache : CacheValue) (xs : List Exchange) → cache.config ≡ s.cache.config → passed_of s xs ≡ passed_of (record s { cache = cache }) xs
passed-elsewhere s cache [] same = refl
passed-elsewhere s cache (x ∷ xs) same = ap₂ (λ limit (ps : List PassedValue). record { query = x.query; limit = limit } ∷ ps) (limit-elsewhere s cache x.query (kind_of x.outcome) same) (passed-elsewhere s cache xs same)

follows-elsewhere : (s : LookupContext) (cache : CacheValue) (caches : List CacheValue) (hop : Hop) (xs : List Exchange) (last : Hop) → FollowsAliases s caches hop xs last → FollowsAliases (record s { cache = cache }) caches hop xs last
follows-elsewhere s cache [] hop [] last e = e
follows-elsewhere s cache (c ∷ cs) hop (x ∷ xs) last (next, p, rest) = (next, p, follows-elsewhere s cache cs next xs last rest)
follows-elsewhere s cache [] hop (x ∷ xs) last never = absurd never
follows-elsewhere s cache (c ∷ cs) hop [] last never = absurd never

pub in-flight-elsewhere : (s : LookupContext) (cache : CacheValue) (p : PendingValue) → cache.config ≡ s.cache.config → IsInFlight s p → IsInFlight (record s { cache = cache }) p
in-flight-elsewhere s cache p same is = record {
  passed = record {
    leads = follows-elsewhere s cache p.caches (first_hop p.question) p.asks p.waiting.hop is.passed.leads;
    short = is.passed.short;
    passed_are = is.passed.passed_are ∙ passed-elsewhere s cache p.asks same;
  };
  upstream = is.upstream;
}
