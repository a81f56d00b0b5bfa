-- Every record that a look-up gives or stores comes from its sources.
use Rattle.std.proofs.Common.{◌≡◌, ◌⊎◌, ◌≤◌, ◌==◌, ◌&&◌, ℕ, ◌+◌, Bool, true, false, List, [], ◌++◌, map, filter, Contains, Ok, Err, IfSome, refl, sym, ap, subst, inl, inr, arith, ◌∙◌}
use Rattle.std.proofs.lemmas.Bool.{and_parts, eq-eqb}
use Rattle.std.specs.List.{AllByRecursion}
use Rattle.hickory_proto_core.specs.Codes.{type_code}
use Rattle.hickory_proto_core.specs.Handles.{OutcomeValue}
use Rattle.hickory_proto_core.specs.Records.{RecordValue}
use Rattle.hickory_proto_core.specs.ResponseKind.{record_type_code}
use Rattle.hickory_proto_core.specs.declared.query.Query.{Query}
use Rattle.hickory_proto_core.specs.declared.recorded.Exchange.{Exchange}
use Rattle.hickory_proto_core.specs.declared.net_error.NetError.TheVariants.{OutOfMemory}
use Rattle.hickory_resolver_model.specs.Bounds.{ConfigValue, greatest_ttl}
use Rattle.hickory_resolver_model.specs.Cache.{CacheValue, Entry, IsCache, IsTimelyAnswer, OutlivesNoAnswer, is_for, is_current}
use Rattle.hickory_resolver_model.specs.Lookup.{LookupResult}
use Rattle.hickory_resolver_model.specs.Hops.{LookupContext, Store, IsReplyOver, entry_of_store, after_stores}
use Rattle.hickory_resolver_theorems.specs.Covered.{Dated, dated_exchanges, IsCovered}
use Rattle.hickory_resolver_theorems.specs.Statements.{IsFreshRecord, IsFreshReply, IsFreshOutcome, IsFreshEntry}
use Rattle.hickory_resolver_theorems.specs.Provenance.{is_positive, is_source, answers_alone, dated_entry, sources_of, stores_made, IsFromSources, HasProvenance}
use Rattle.hickory_resolver_theorems.proofs.Lists.{all-weaker, all-has, has-all, all-front, has-left, has-map, has-filter, find-has, ContainsByRecursion, contains-from_recursion}
use Rattle.hickory_resolver_theorems.proofs.Covers.{covered-has}
use Rattle.hickory_resolver_theorems.proofs.Stores.{StoresArrived, stores-known, store-fresh}
use Rattle.hickory_resolver_theorems.proofs.Fresh.{for-type, AreFreshHits, hops-fresh, own-sources}

-- an entry that is a source is fresh by itself
pub entry-own : (config : ConfigValue) (sources : List Dated) (e : Entry) (o : OutcomeValue) → e.result ≡ o → (is_positive o ≡ true → ContainsByRecursion sources (dated_entry e)) → OutlivesNoAnswer config e → IsFreshOutcome config sources e o
entry-own config sources e (Err error) is there timely = tt
entry-own config sources e (Ok m) is there timely = λ zero. has-all (IsFreshRecord config sources code e.original_time e.valid_until) m.answers (λ r h same. inr (of r h same (all-has (IsTimelyAnswer config e code) m.answers r (timely zero m is) h same)))
  where
    code : ℕ
    code = type_code e.query.query_type

    of : (r : RecordValue) → ContainsByRecursion m.answers r → record_type_code r ≡ code → (e.valid_until ≤ e.original_time + r.ttl) × (r.ttl ≤ greatest_ttl config code)
        → IsCovered config sources e.original_time r × (r.ttl ≤ greatest_ttl config code) × (e.valid_until ≤ e.original_time + r.ttl)
    of r h same t =
        let short : r.ttl ≤ greatest_ttl config (record_type_code r) = subst (λ n. r.ttl ≤ greatest_ttl config n) (sym same) t.1 in (
          covered-has config sources e.original_time r (dated_entry e) (there refl) (record {
            response = record m { authorities = []; additionals = [] };
            came = ap answers_alone is;
            received = r;
            brought = contains-from_recursion ((m.answers ++ []) ++ []) r (has-left (m.answers ++ []) [] r (has-left m.answers [] r h));
            equal = refl;
            reaches = omega (arith, short);
          }),
          t.1,
          t.0,
        )

pub both-true : (a b : Bool) → a ≡ true → b ≡ true → (a && b) ≡ true
both-true true b e f = f
both-true false b e f = cc

-- each hit of the asked type is a source
hits-own : (s : LookupContext) (question : Query) (asks : List Exchange) → AllByRecursion (OutlivesNoAnswer s.cache.config) s.cache.entries → AreFreshHits s (sources_of s question asks) (type_code question.query_type)
hits-own s question asks timely q e same is =
    let found = find-has (λ x. is_for q x && is_current s.now x) s.cache.entries e is in
    let both = and_parts (is_for q e) (is_current s.now e) found.1 in
    let code = type_code question.query_type in
    let of_type : (type_code e.query.query_type == code) ≡ true = eq-eqb _ _ (for-type q e both.0 ∙ same) in
    let there : is_positive e.result ≡ true → ContainsByRecursion (sources_of s question asks) (dated_entry e) =
    λ positive. has-left (map dated_entry (filter (is_source s.now code) s.cache.entries)) (dated_exchanges s.now asks) (dated_entry e)
    (has-map dated_entry (filter (is_source s.now code) s.cache.entries) e
    (has-filter (is_source s.now code) s.cache.entries e found.0 (both-true _ _ (both-true _ _ both.1 positive) of_type))) in
    entry-own s.cache.config (sources_of s question asks) e e.result refl there (all-has (OutlivesNoAnswer s.cache.config) s.cache.entries e timely found.0)

-- what was in the cache before, or is fresh
abbrev IsKnown : List Entry → ConfigValue → List Dated → Entry → Type 0
IsKnown before config sources e = Contains before e ⊎ IsFreshEntry config sources e

pub from_sources : (s : LookupContext) (caches : List CacheValue) (question : Query) (asks : List Exchange) (result : LookupResult) (after : CacheValue) → IsCache s.cache.config s.cache.capacity s.cache.entries → (reply : IsReplyOver s caches question asks result after) → HasProvenance s caches question asks result after reply
from_sources s caches question asks result after cache reply zero = by reply
  where
    code : ℕ
    code = type_code question.query_type

    sources : List Dated
    sources = sources_of s question asks

    own : AllByRecursion (λ x. ContainsByRecursion sources (record { moment = s.now; exchange = x })) asks
    own = own-sources (map dated_entry (filter (is_source s.now code) s.cache.entries)) s.now asks

    hits : AreFreshHits s sources code
    hits = hits-own s question asks cache.timely

    old : AllByRecursion (IsKnown s.cache.entries s.cache.config sources) s.cache.entries
    old = has-all (IsKnown s.cache.entries s.cache.config sources) s.cache.entries (λ e h. inl (contains-from_recursion s.cache.entries e h))

    stored : (stores : List Store) → AllByRecursion (StoresArrived s.cache.config sources) stores → after ≡ after_stores stores s.cache → AllByRecursion (IsKnown s.cache.entries s.cache.config sources) after.entries
    stored stores arrive e = subst (λ c. AllByRecursion (IsKnown s.cache.entries s.cache.config sources) c.entries) (sym e) (stores-known (IsKnown s.cache.entries s.cache.config sources) s.cache sources stores old (λ e h. inr h) arrive)

    out : result ≡ Err OutOfMemory → IsFreshReply s.cache.config sources code s.now result
    out e = subst (IsFreshReply s.cache.config sources code s.now) (sym e) tt

    made : (stores : List Store) → AllByRecursion (StoresArrived s.cache.config sources) stores → AllByRecursion (λ store. IfSome (entry_of_store s.cache.config store) (IsFreshEntry s.cache.config sources)) stores
    made stores arrive = all-weaker (StoresArrived s.cache.config sources) (λ store. IfSome (entry_of_store s.cache.config store) (IsFreshEntry s.cache.config sources)) (store-fresh s.cache.config sources) stores arrive

    by : (reply : IsReplyOver s caches question asks result after) → IsFromSources s question asks result (stores_made s caches question asks result after reply) after
    by (inl whole) =
        let hops = hops-fresh s caches question asks sources whole.hops hits own in
        record { reply = subst (IsFreshReply s.cache.config sources code s.now) (sym whole.result_is) (hops.reply zero); stores = made _ hops.stores; entries = stored _ hops.stores whole.after_is }
    by (inr (e, inl cut)) =
        let hops = hops-fresh s caches question asks sources cut.hops hits own in
        let front = all-front (StoresArrived s.cache.config sources) cut.begun.front cut.begun.back (subst (AllByRecursion (StoresArrived s.cache.config sources)) (sym cut.begun.parts) hops.stores) in
        record { reply = out e; stores = made cut.begun.front front; entries = stored cut.begun.front front cut.begun.after_is }
    by (inr (e, inr cut)) =
        record { reply = out e; stores = tt; entries = subst (λ c. AllByRecursion (IsKnown s.cache.entries s.cache.config sources) c.entries) (sym cut.after_is) old }
