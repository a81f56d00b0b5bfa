-- No alias outlives its CNAMEs.
use Rattle.std.proofs.Common.{◌≡◌, ◌≤◌, ◌+◌, ℕ, Bool, false, List, [], ◌∷◌, ◌++◌, map, min, Option, Some, None, Ok, Err, IfSome, refl, sym, ap, ◌∙◌, subst, arith, inl, inr, append_assoc}
use Rattle.std.proofs.lemmas.List.{append-nil}
use Rattle.std.specs.Option.{option_map}
use Rattle.std.specs.List.{AllByRecursion}
use Rattle.hickory_proto_core.specs.Codes.{type_code}
use Rattle.hickory_proto_core.specs.ResponseKind.{ResponseKind, Answer, Negative, Failed, kind_of, is_empty}
use Rattle.hickory_proto_core.specs.codes.record_type.RecordType.TheVariants as type
use Rattle.hickory_proto_core.specs.declared.query.Query.{Query}
use Rattle.hickory_proto_core.specs.declared.recorded.Exchange.{Exchange}
use Rattle.hickory_proto_core.specs.declared.net_error.NetError.TheVariants.{Dns}
use Rattle.hickory_proto_core.specs.declared.net_error.DnsError.TheVariants.{NoRecordsFound}
use Rattle.hickory_resolver_model.specs.Bounds.{ConfigValue, bounds_for, positive_bounds, reduced_bound, greatest_ttl}
use Rattle.hickory_resolver_model.specs.Cache.{CacheValue, Entry, last_moment, entry_of, not_after}
use Rattle.hickory_resolver_model.specs.Lookup.{LookupValue, LookupResult}
use Rattle.hickory_resolver_model.specs.AliasWalk.{walk_of}
use Rattle.hickory_resolver_model.specs.Verdict.{Hop, Verdict, Accepted, LeadsTo, NoMatch, verdict}
use Rattle.hickory_resolver_model.specs.Hops.{LookupContext, ChainEnd, Special, Hit, Asked, Store, IsReplyOver, one_cache, passed_of, asks_of, earliest, alias_deadline, alias_limit, end_limit, limit_of, result_of, result_until, reply_of, last_stores, earlier_store, earlier_stores, stores_of, stores_when_asked, stores_of_verdict}
use Rattle.hickory_resolver_model.specs.Calls.{CallContext, context_over, Source, Hosts, Client, SubLookup, IsAnsweredFrom, IsAnsweredFor}
use Rattle.hickory_resolver_model.specs.Run.{Settings, call_context_at, RequestValue, StepValue, answers_at, Run}
use Rattle.hickory_resolver_theorems.specs.Statements.{LeastTtlIsZero}
use Rattle.hickory_resolver_theorems.specs.Aliases.{counted_in, IsWithinAlias, OutlivesNoAlias, StoreOutlivesNoAlias, StoresOutliveNoAlias, NoAliasOutlives, OutlivesNoAliasBy, SubLookupOutlivesNoAlias, RunOutlivesNoAlias}
use Rattle.hickory_resolver_theorems.proofs.Weaker.{stages-weaker}

module _ (s : LookupContext) (zero : LeastTtlIsZero s.cache.config (type_code type.CNAME)) where
  abbrev config : ConfigValue
  config = s.cache.config

  -- ---- below a limit

  alias_deadline-le : (ttl : ℕ) → alias_deadline config s.now ttl ≤ s.now + min ttl (greatest_ttl config (type_code type.CNAME))
  alias_deadline-le ttl =
      let none : reduced_bound (positive_bounds (bounds_for config (type_code type.CNAME))).0 ≡ 0 = ap reduced_bound zero in
      omega (arith, none)

  below-earliest : (deadline : ℕ) (ttls : List ℕ) → deadline ≤ earliest (map (alias_deadline config s.now) ttls) → AllByRecursion (IsWithinAlias config s.now deadline) ttls
  below-earliest deadline [] le = tt
  below-earliest deadline (ttl ∷ ttls) le = (
    omega (arith, le, alias_deadline-le ttl),
    below-earliest deadline ttls (omega (arith, le)),
  )

  below-own : (deadline : ℕ) (q : Query) (kind : ResponseKind) → deadline ≤ alias_limit s q kind → AllByRecursion (IsWithinAlias config s.now deadline) (counted_in q kind)
  below-own deadline q (Answer response) le = below-earliest deadline (walk_of q response.answers).alias_ttls le
  below-own deadline q (Negative none) le = tt
  below-own deadline q (Failed error) le = tt

  below-end : (deadline : ℕ) (hop : Hop) (last : ChainEnd) → deadline ≤ end_limit s hop last → OutlivesNoAlias s (asks_of hop last) last deadline
  below-end deadline hop (Special reply) le = (tt, tt)
  below-end deadline hop (Hit entry) le = (tt, le)
  below-end deadline hop (Asked outcome) le = ((below-own deadline hop.query (kind_of outcome) le, tt), tt)

  -- what is not after the limit of a hop outlives no alias from there on
  below-limit : (deadline : ℕ) (passed : List Exchange) (hop : Hop) (last : ChainEnd) → deadline ≤ limit_of (passed_of s passed) (end_limit s hop last) → OutlivesNoAlias s (passed ++ asks_of hop last) last deadline
  below-limit deadline [] hop last le = below-end deadline hop last le
  below-limit deadline (x ∷ xs) hop last le =
      let more = below-limit deadline xs hop last (omega (arith, le)) in
      ((below-own deadline x.query (kind_of x.outcome) (omega (arith, le)), more.0), more.1)

  -- ---- a store

  cut : (P : ℕ → Type 0) (limit : ℕ) (entry : Option Entry) → ((deadline : ℕ) → deadline ≤ limit → P deadline) → IfSome (option_map (not_after limit) entry) (λ e. P e.valid_until)
  cut P limit None below = tt
  cut P limit (Some e) below = below (min e.valid_until limit) (omega arith)

  store-limited : (asks : List Exchange) (last : ChainEnd) (store : Store) → ((deadline : ℕ) → deadline ≤ store.limit → OutlivesNoAlias s asks last deadline) → StoreOutlivesNoAlias s asks last store
  store-limited asks last store below = cut (OutlivesNoAlias s asks last) store.limit (entry_of config store.query store.outcome store.now) below

  -- the last hop stores once at most, under its own question
  kind-limited : (hop : Hop) (last : ChainEnd) (kind : ResponseKind) → ((deadline : ℕ) → deadline ≤ alias_limit s hop.query kind → OutlivesNoAlias s (asks_of hop last) last deadline) → StoresOutliveNoAlias s [] hop last (stores_when_asked s hop kind)
  kind-limited hop last (Answer m) below = on (verdict s.preserve_intermediates hop m)
    where
      limit : ℕ
      limit = alias_limit s hop.query (Answer m)

      on : (v : Verdict) → StoresOutliveNoAlias s [] hop last (stores_of_verdict hop.query s.now limit v)
      on (Accepted found) = (refl, cut (OutlivesNoAlias s (asks_of hop last) last) limit (entry_of config hop.query (Ok found) s.now) below)
      on (LeadsTo next) = tt
      on NoMatch = tt
  kind-limited hop last (Negative none) below = (refl, cut (OutlivesNoAlias s (asks_of hop last) last) last_moment (entry_of config hop.query (Err (Dns (NoRecordsFound none))) s.now) below)
  kind-limited hop last (Failed error) below = tt

  own-limited : (hop : Hop) (last : ChainEnd) → StoresOutliveNoAlias s [] hop last (last_stores s hop last)
  own-limited hop (Special reply) = tt
  own-limited hop (Hit entry) = tt
  own-limited hop (Asked outcome) = kind-limited hop (Asked outcome) (kind_of outcome) (λ deadline le. below-end deadline hop (Asked outcome) le)

  pub stores-limited : (passed : List Exchange) (hop : Hop) (last : ChainEnd) → StoresOutliveNoAlias s passed hop last (stores_of s (passed_of s passed) hop last)
  stores-limited [] hop last = subst (StoresOutliveNoAlias s [] hop last) (sym (append-nil (last_stores s hop last))) (own-limited hop last)
  stores-limited (x ∷ xs) hop last =
      let own : Store = earlier_store (result_of s hop last) s.now x.query (limit_of (passed_of s (x ∷ xs)) (end_limit s hop last)) in (
        stores_of s (passed_of s xs) hop last,
        own,
        sym (append_assoc (last_stores s hop last) (earlier_stores (result_of s hop last) s.now (end_limit s hop last) (passed_of s xs)) (own ∷ [])),
        refl,
        store-limited (x ∷ xs ++ asks_of hop last) last own (λ deadline le. below-limit deadline (x ∷ xs) hop last le),
        stores-limited xs hop last,
      )

  -- ---- the result

  until-limited : (asks : List Exchange) (last : ChainEnd) (limit : ℕ) (result : LookupResult) → ((deadline : ℕ) → deadline ≤ limit → OutlivesNoAlias s asks last deadline) → (l : LookupValue) → result_until limit result ≡ Ok l → OutlivesNoAlias s asks last l.valid_until
  until-limited asks last limit (Ok k) below l e =
      let same : record k { valid_until = min k.valid_until limit } ≡ l = cc in
      subst (λ (x : LookupValue). OutlivesNoAlias s asks last x.valid_until) same (below (min k.valid_until limit) (omega arith))
  until-limited asks last limit (Err error) below l e = cc

  asked : (passed : List Exchange) (hop : Hop) (last : ChainEnd) (l : LookupValue) → result_until (limit_of (passed_of s passed) (end_limit s hop last)) (result_of s hop last) ≡ Ok l → OutlivesNoAlias s (passed ++ asks_of hop last) last l.valid_until
  asked passed hop last l e =
      until-limited (passed ++ asks_of hop last) last (limit_of (passed_of s passed) (end_limit s hop last)) (result_of s hop last) (λ deadline le. below-limit deadline passed hop last le) l e

  pub reply-limited : (passed : List Exchange) (hop : Hop) (last : ChainEnd) (l : LookupValue) → reply_of s (passed_of s passed) hop last ≡ Ok l → is_empty (passed ++ asks_of hop last) ≡ false → OutlivesNoAlias s (passed ++ asks_of hop last) last l.valid_until
  reply-limited [] hop (Special reply) l e some = cc
  reply-limited [] hop (Hit entry) l e some = cc
  reply-limited [] hop (Asked outcome) l e some = asked [] hop (Asked outcome) l e
  reply-limited (x ∷ xs) hop (Special reply) l e some = asked (x ∷ xs) hop (Special reply) l e
  reply-limited (x ∷ xs) hop (Hit entry) l e some = asked (x ∷ xs) hop (Hit entry) l e
  reply-limited (x ∷ xs) hop (Asked outcome) l e some = asked (x ∷ xs) hop (Asked outcome) l e

-- ---- a look-up

pub no_alias_outlives : (s : LookupContext) (caches : List CacheValue) (question : Query) (asks : List Exchange) (result : LookupResult) (after : CacheValue) → (reply : IsReplyOver s caches question asks result after) → NoAliasOutlives s caches question asks result after reply
no_alias_outlives s caches question asks result after (inl whole) = λ zero.
    let h = whole.hops in (
      stores-limited s zero h.passed h.last_hop h.last,
      λ l e some. subst (λ xs. OutlivesNoAlias s xs h.last l.valid_until) (sym h.asks_are)
          (reply-limited s zero h.passed h.last_hop h.last l (sym whole.result_is ∙ e) (ap is_empty (sym h.asks_are) ∙ some)),
    )
no_alias_outlives s caches question asks result after (inr (out, inl cut)) = λ zero.
    let h = cut.hops in
    subst (StoresOutliveNoAlias s h.passed h.last_hop h.last) (sym cut.begun.parts) (stores-limited s zero h.passed h.last_hop h.last)
no_alias_outlives s caches question asks result after (inr (out, inr cut)) = tt

-- ---- a call, and a run

pub part_limited : (t : CallContext) (with_hosts : Bool) (before : CacheValue) (q : Query) (p : SubLookup) (after : CacheValue) → IsAnsweredFor t with_hosts before q p after → SubLookupOutlivesNoAlias t with_hosts before q p after
part_limited t with_hosts before q p after (for, is) = (for, by p.source is)
  where
    by : (source : Source) → IsAnsweredFrom source t with_hosts before p after → OutlivesNoAliasBy source t with_hosts before p after
    by Hosts is = is
    by Client is = (is, no_alias_outlives (context_over t before) (one_cache (context_over t before) p.asks) p.question p.asks p.result after is.reply)

pub run_limited : (s : Settings) (first : CacheValue) (requests : List RequestValue) (steps : List StepValue) (exchanges : List Exchange) (after : CacheValue) → (run : Run s first requests steps exchanges after) → RunOutlivesNoAlias s first requests steps exchanges after run
run_limited s first requests steps exchanges after run =
    stages-weaker (answers_at s) (λ now. SubLookupOutlivesNoAlias (call_context_at s now)) (λ now with_hosts before q p end is. part_limited (call_context_at s now) with_hosts before q p end is) s first requests run.stages after run.are
