-- No alias outlives its CNAMEs: what a look-up stores under the question of a hop, and what it answers where its
-- first question was asked, is usable no longer than each CNAME that counted from that hop on, and no longer than
-- the entry that was hit at the end (RFC 1034, section 3.6.2; RFC 2181, section 8).
use Rattle.std.specs.Prelude.{◌≡◌, ◌≤◌, ◌+◌, ℕ, Bool, false, List, [], ◌∷◌, ◌++◌, min, Ok, IfSome}
use mathlib.Core.Logic.{inl, inr}
use Rattle.std.specs.List.{AllByRecursion}
use Rattle.hickory_proto_core.specs.Codes.{type_code}
use Rattle.hickory_proto_core.specs.ResponseKind.{ResponseKind, Answer, Negative, Failed, kind_of, is_empty}
use Rattle.hickory_proto_core.specs.codes.record_type.RecordType.TheVariants as type
use Rattle.hickory_proto_core.specs.declared.query.Query.{Query}
use Rattle.hickory_proto_core.specs.declared.recorded.Exchange.{Exchange}
use Rattle.hickory_resolver_model.specs.Bounds.{ConfigValue, greatest_ttl}
use Rattle.hickory_resolver_model.specs.Cache.{CacheValue}
use Rattle.hickory_resolver_model.specs.Lookup.{LookupValue, LookupResult}
use Rattle.hickory_resolver_model.specs.AliasWalk.{walk_of}
use Rattle.hickory_resolver_model.specs.Verdict.{Hop}
use Rattle.hickory_resolver_model.specs.Hops.{LookupContext, ChainEnd, Special, Hit, Asked, Store, IsReplyOver, entry_of_store, asks_of, one_cache, passed_of, stores_of}
use Rattle.hickory_resolver_model.specs.Calls.{CallContext, context_over, Source, Hosts, Client, SubLookup, SubLookupRelation, IsAnsweredByHosts, IsAnsweredByClient}
use Rattle.hickory_resolver_model.specs.Run.{Settings, call_context_at, RequestValue, StepValue, AreStagesBy, Run}
use Rattle.hickory_resolver_theorems.specs.Statements.{LeastTtlIsZero}

-- the TTLs, as they were received, of the CNAMEs that the walk of what came back to a question counted. Only an
-- answer is walked
abbrev pub counted_in : Query → ResponseKind → List ℕ
counted_in q (Answer response) = (walk_of q response.answers).alias_ttls
counted_in q (Negative none) = []
counted_in q (Failed error) = []

-- the deadline is no later than the moment and the TTL of this CNAME, cut at the greatest for CNAMEs
abbrev pub IsWithinAlias : ConfigValue → ℕ → ℕ → ℕ → Type 0
IsWithinAlias config now deadline ttl = deadline ≤ now + min ttl (greatest_ttl config (type_code type.CNAME))

-- nor later than that of the entry that was hit
abbrev pub IsWithinEnd : ChainEnd → ℕ → Type 0
IsWithinEnd (Special reply) deadline = Unit {0}
IsWithinEnd (Hit entry) deadline = deadline ≤ entry.valid_until
IsWithinEnd (Asked outcome) deadline = Unit {0}

-- the deadline is no later than what each CNAME allows that counted in these exchanges, those of a hop and of the
-- hops after it, and no later than that of the entry which the last hop hit
abbrev pub OutlivesNoAlias : LookupContext → List Exchange → ChainEnd → ℕ → Type 0
OutlivesNoAlias s asks last deadline =
    AllByRecursion
    (λ x. AllByRecursion (IsWithinAlias s.cache.config s.now deadline) (counted_in x.query (kind_of x.outcome))) asks
    × IsWithinEnd last deadline

abbrev pub StoreOutlivesNoAlias : LookupContext → List Exchange → ChainEnd → Store → Type 0
StoreOutlivesNoAlias s asks last store =
    IfSome (entry_of_store s.cache.config store) (λ e. OutlivesNoAlias s asks last e.valid_until)

-- The stores of hops, from the last hop to the first: the last of them is made under the question of the first
-- hop, and outlives no alias from that hop on; those before it are the stores of the hops after it. The last hop
-- stores once at most, under its own question.
abbrev pub StoresOutliveNoAlias : LookupContext → List Exchange → Hop → ChainEnd → List Store → Type 0
StoresOutliveNoAlias s [] hop last [] = Unit {0}
StoresOutliveNoAlias s [] hop last (own ∷ []) =
    (own.query ≡ hop.query) × StoreOutlivesNoAlias s (asks_of hop last) last own
StoresOutliveNoAlias s [] hop last (own ∷ other ∷ stores) = ⊥
StoresOutliveNoAlias s (x ∷ xs) hop last stores =
    (later : List Store) × (own : Store) × (stores ≡ later ++ own ∷ []) × (own.query ≡ x.query)
    × StoreOutlivesNoAlias s (x ∷ xs ++ asks_of hop last) last own
    × StoresOutliveNoAlias s xs hop last later

-- an answer, where something was asked: the first hop was, then
abbrev pub ResultOutlivesNoAlias : LookupContext → List Exchange → ChainEnd → LookupResult → Type 0
ResultOutlivesNoAlias s asks last result =
    (l : LookupValue) → result ≡ Ok l → is_empty asks ≡ false → OutlivesNoAlias s asks last l.valid_until

-- Of a look-up: where the least TTL of CNAMEs is zero, each of its stores outlives no alias, one under the question of
-- each hop before the last; and so does its result. These are the stores by which the cache came to be what it is after
-- the look-up. An entry that is hit may end long before its records do, since a CNAME bounded it: a client that takes
-- the TTL of the records for its deadline breaks this. Nothing is said of a result where the first question is a hit.
-- Where memory ran out among the stores, those that were made are a beginning of stores of which this holds.
abbrev pub NoAliasOutlives : (s : LookupContext) (caches : List CacheValue) (question : Query) (asks : List Exchange)
    (result : LookupResult) (after : CacheValue) → IsReplyOver s caches question asks result after → Type 0
NoAliasOutlives s caches question asks result after (inl whole) =
    let hops = whole.hops in
    LeastTtlIsZero s.cache.config (type_code type.CNAME)
    → StoresOutliveNoAlias s hops.passed hops.last_hop hops.last
    (stores_of s (passed_of s hops.passed) hops.last_hop hops.last)
    × ResultOutlivesNoAlias s asks hops.last result
NoAliasOutlives s caches question asks result after (inr (out, inl cut)) =
    let hops = cut.hops in
    LeastTtlIsZero s.cache.config (type_code type.CNAME)
    → StoresOutliveNoAlias s hops.passed hops.last_hop hops.last (cut.begun.front ++ cut.begun.back)
NoAliasOutlives s caches question asks result after (inr (out, inr cut)) = Unit {0}

-- ---- the look-ups of a call, and of a run

-- a question of a call is answered by the table of hosts, or by the client with a look-up of which this holds
abbrev pub OutlivesNoAliasBy : Source → CallContext → Bool → CacheValue → SubLookup → CacheValue → Type 0
OutlivesNoAliasBy Hosts s with_hosts before p after = IsAnsweredByHosts s with_hosts before p after
OutlivesNoAliasBy Client s with_hosts before p after =
    (is : IsAnsweredByClient s with_hosts before p after)
    × NoAliasOutlives (context_over s before) (one_cache (context_over s before) p.asks) p.question p.asks p.result after
    is.reply

abbrev pub SubLookupOutlivesNoAlias : CallContext → SubLookupRelation
SubLookupOutlivesNoAlias s with_hosts before q p after = (p.question ≡ q) × OutlivesNoAliasBy p.source s with_hosts before p after

-- Of a run: it holds of each look-up of the client, over the cache that the one before it left.
abbrev pub RunOutlivesNoAlias : (s : Settings) (first : CacheValue) (requests : List RequestValue)
    (steps : List StepValue) (exchanges : List Exchange) (after : CacheValue)
    → Run s first requests steps exchanges after → Type 0
RunOutlivesNoAlias s first requests steps exchanges after run =
    AreStagesBy (λ now. SubLookupOutlivesNoAlias (call_context_at s now)) s first requests run.stages after
