-- What is promised of a call of the resolver holds of those of the definition.
use Rattle.std.proofs.Common.{◌≡◌, ◌⊎◌, ◌≤◌, ◌&&◌, not, ℕ, Bool, true, List, [], ◌++◌, length, map, filter, Option, Result, Ok, Err, IfSome, refl, sym, ap, ◌∙◌, subst, arith, inl, inr}
use Rattle.std.proofs.lemmas.Bool.{and_parts, eq-eqb}
use Rattle.std.specs.List.{AllByRecursion, Contains}
use Rattle.std.specs.declared.net.IpAddr.{IpAddr}
use Rattle.hickory_proto_core.specs.Codes.{type_code}
use Rattle.hickory_proto_core.specs.Handles.{HandleStep}
use Rattle.hickory_proto_core.specs.Name.{NameValue}
use Rattle.hickory_proto_core.specs.ResponseKind.{ResponseKind, Answer, Negative, Failed, kind_of}
use Rattle.hickory_proto_core.specs.codes.record_type.RecordType.{RecordType}
use Rattle.hickory_proto_core.specs.names.name_error.NameError.{NameError}
use Rattle.hickory_proto_core.specs.declared.query.Query.{Query}
use Rattle.hickory_proto_core.specs.declared.recorded.Exchange.{Exchange}
use Rattle.hickory_proto_core.specs.declared.net_error.NetError.TheVariants.{Message, Timeout, Proto, Dns, NoOutcome, Bounds, OutOfMemory}
use Rattle.hickory_resolver_model.specs.Bounds.{ConfigValue}
use Rattle.hickory_resolver_model.specs.Cache.{CacheValue, Entry, IsCache, OutlivesNoAnswer, is_for, is_current, without_query}
use Rattle.hickory_resolver_model.specs.Lookup.{LookupResult}
use Rattle.hickory_resolver_model.specs.Verdict.{Hop, Verdict, Accepted, LeadsTo, NoMatch, first_hop, verdict}
use Rattle.hickory_resolver_model.specs.Hops.{LookupContext, ChainEnd, Special, Hit, Asked, HopList, Store, IsReply, one_cache, passed_of, end_limit, alias_limit, entry_of_store, stores_of_verdict, stores_when_asked, last_stores, earlier_store, earlier_stores, stores_of, result_of, after_stores}
use Rattle.hickory_resolver_model.specs.Calls.{CallContext, context_over, Source, Hosts, Client, SubLookup, SubLookupRelation, IsAnsweredFrom, IsAnsweredFor, is_out_of_memory, asks_of_sub_lookups}
use Rattle.hickory_resolver_model.specs.Attempts.{attempts}
use Rattle.hickory_resolver_model.specs.Run.{Settings, call_context_at, Call, IsCall, after_clear, name_call, address_call}
use Rattle.hickory_resolver_model.specs.Resolver.{ResolverValue, settings, AnswersCall, AnswersName, AnswersHost}
use Rattle.hickory_resolver_theorems.specs.Aliases.{SubLookupOutlivesNoAlias}
use Rattle.hickory_resolver_theorems.specs.Covered.{Dated, dated_exchanges}
use Rattle.hickory_resolver_theorems.specs.Provenance.{is_source, dated_entry, stores_made}
use Rattle.hickory_resolver_theorems.specs.Statements.{LeastTtlIsZero, IsFreshReply, IsFreshEntry, IsFreshSubLookup, IsWhatItResolvesTo, AreWhatTheyResolveTo, CachelessSubLookup}
use Rattle.hickory_resolver_theorems.specs.CallFacts.{IsCallBy, IsOwnAnswer, AreFreshReplies, IsFreshForType, IsFreshlyStoredBy, FreshlyStoredSubLookup, call_sources, HasCallProvenance, IsFreshCall, IsTransparentCall, IsPromisedCall, PromisesName, PromisesHost, KeepsWhatIsKnown}
use Rattle.hickory_resolver_theorems.proofs.Lists.{all-weaker, all-append, all-front, all-both, all-filter, all-has, has-all, has-left, has-map, has-filter, find-has, ContainsByRecursion, contains-from_recursion, contains-to_recursion}
use Rattle.hickory_resolver_theorems.proofs.VerdictFacts.{KeepsType, leads-keep}
use Rattle.hickory_resolver_theorems.proofs.Stores.{Makes, after_stores-all, earlier-all, makes-fresh, makes-some, StoresArrived}
use Rattle.hickory_resolver_theorems.proofs.Fresh.{for-type, AreFreshHits, hops-fresh, own-sources}
use Rattle.hickory_resolver_theorems.proofs.Few.{few}
use Rattle.hickory_resolver_theorems.proofs.Provenances.{entry-own, both-true}
use Rattle.hickory_resolver_theorems.proofs.Chains.{Chain, chain-all, chain-call, chain-none}
use Rattle.hickory_resolver_theorems.proofs.CallsAlone.{call_by-alone}
use Rattle.hickory_resolver_theorems.proofs.Weaker.{call-weaker, call-along}
use Rattle.hickory_resolver_theorems.proofs.Answered.{IsTold, told-call, told-unserved, has-fresh}
use Rattle.hickory_resolver_theorems.proofs.Runs.{reply-config, good-chain, drop_each-fresh}
use Rattle.hickory_resolver_theorems.proofs.Headlines.{asks-all, call-alike, drop_each-meant}
use Rattle.hickory_resolver_theorems.proofs.AliasLifetimes.{part_limited}

-- ---- the stores of a look-up are under questions of its type

abbrev IsOfType : ℕ → Store → Type 0
IsOfType code store = type_code store.query.query_type ≡ code

own-typed : (s : LookupContext) (code : ℕ) (hop : Hop) (last : ChainEnd) → type_code hop.query.query_type ≡ code → AllByRecursion (IsOfType code) (last_stores s hop last)
own-typed s code hop (Special reply) same = tt
own-typed s code hop (Hit entry) same = tt
own-typed s code hop (Asked outcome) same = by (kind_of outcome)
  where
    by : (kind : ResponseKind) → AllByRecursion (IsOfType code) (stores_when_asked s hop kind)
    by (Answer m) = on (verdict s.preserve_intermediates hop m)
      where
        on : (v : Verdict) → AllByRecursion (IsOfType code) (stores_of_verdict hop.query s.now (alias_limit s hop.query (Answer m)) v)
        on (Accepted found) = (same, tt)
        on (LeadsTo next) = tt
        on NoMatch = tt
    by (Negative none) = (same, tt)
    by (Failed error) = tt

hops-typed : (s : LookupContext) (caches : List CacheValue) (question : Query) (asks : List Exchange) (h : HopList s caches question asks) → AllByRecursion (IsOfType (type_code question.query_type)) (stores_of s (passed_of s h.passed) h.last_hop h.last)
hops-typed s caches question asks h =
    all-append (IsOfType code) (last_stores s h.last_hop h.last) (earlier_stores (result_of s h.last_hop h.last) s.now (end_limit s h.last_hop h.last) (passed_of s h.passed)) (own-typed s code h.last_hop h.last leads.0.type_is)
    (earlier-all (IsOfType code) s (result_of s h.last_hop h.last) (end_limit s h.last_hop h.last) h.passed
    (all-weaker (λ x. type_code x.query.query_type ≡ code) (λ x. (limit : ℕ) → IsOfType code (earlier_store (result_of s h.last_hop h.last) s.now x.query limit)) (λ x same limit. same) h.passed leads.1))
  where
    code : ℕ
    code = type_code question.query_type

    leads : KeepsType code h.last_hop × AllByRecursion (λ x. type_code x.query.query_type ≡ code) h.passed
    leads = leads-keep code s h.before (first_hop question) h.passed h.last_hop (record { type_is = refl; others = tt }) h.leads

-- ---- provenance

-- of a call: the moment, the cache before it, and what counts as received, the exchanges of the call and each source of
-- that cache among it
module _ (now : ℕ) (first : CacheValue) (cache : IsCache first.config first.capacity first.entries) (sources : ℕ → List Dated)
    (own : (code : ℕ) (e : Entry) → ContainsByRecursion first.entries e → is_source now code e ≡ true → ContainsByRecursion (sources code) (dated_entry e)) where
  -- an entry was there before, or is fresh
  abbrev IsKnown : ConfigValue → Entry → Type 0
  IsKnown config e = Contains first.entries e ⊎ IsFreshForType config sources e

  abbrev HasArrived : ConfigValue → ℕ → Store → Type 0
  HasArrived config code store = StoresArrived config (sources code) store × IsOfType code store

  stores-fresh_entry : (config : ConfigValue) (code : ℕ) (store : Store) → HasArrived config code store → Makes (IsFreshForType config sources) config store
  stores-fresh_entry config code store (arrived, same) = makes-fresh config (sources (type_code store.query.query_type)) store (subst (λ c. StoresArrived config (sources c) store) (sym same) arrived)

  stores-known_entry : (config : ConfigValue) (code : ℕ) (store : Store) → HasArrived config code store → Makes (IsKnown config) config store
  stores-known_entry config code store arrived =
      let fresh = stores-fresh_entry config code store arrived in
      ((λ m e. inr (fresh.0 m e)), (λ n e. inr (fresh.1 n e)))

  -- what a part keeps to
  record IsSourcedPart (config : ConfigValue) (s : LookupContext) (p : SubLookup) (after : CacheValue) (reply : IsReply s p.question p.asks p.result after) : Type 0 where
    stores : AllByRecursion (λ store. IfSome (entry_of_store config store) (IsFreshForType config sources)) (stores_made s (one_cache s p.asks) p.question p.asks p.result after reply)
    fresh : LeastTtlIsZero config (type_code p.question.query_type) → IsFreshReply config (sources (type_code p.question.query_type)) (type_code p.question.query_type) s.now p.result
    known : AllByRecursion (IsKnown config) after.entries

  part-sourced : (s : LookupContext) (p : SubLookup) (after : CacheValue) → s.now ≡ now → s.cache.config ≡ first.config → AllByRecursion (IsKnown s.cache.config) s.cache.entries
      → AllByRecursion (λ x. (code : ℕ) → ContainsByRecursion (sources code) (record { moment = s.now; exchange = x })) p.asks → (reply : IsReply s p.question p.asks p.result after) → IsSourcedPart s.cache.config s p after reply
  part-sourced s p after moment bounds known asked reply = by reply
    where
      config : ConfigValue
      config = s.cache.config

      code : ℕ
      code = type_code p.question.query_type

      timely : AllByRecursion (OutlivesNoAnswer config) first.entries
      timely = subst (λ c. AllByRecursion (OutlivesNoAnswer c) first.entries) (sym bounds) cache.timely

      there : AllByRecursion (λ x. ContainsByRecursion (sources code) (record { moment = s.now; exchange = x })) p.asks
      there = all-weaker (λ x. (c : ℕ) → ContainsByRecursion (sources c) (record { moment = s.now; exchange = x })) (λ x. ContainsByRecursion (sources code) (record { moment = s.now; exchange = x })) (λ x h. h code) p.asks asked

      hit : (e : Entry) → is_current s.now e ≡ true → type_code e.query.query_type ≡ code → IsKnown config e → IsFreshEntry config (sources code) e
      hit e live of_type (inl has) =
          let inside = contains-to_recursion first.entries e has in
          entry-own config (sources code) e e.result refl
          (λ positive. own code e inside (both-true _ _ (both-true _ _ (subst (λ n. is_current n e ≡ true) moment live) positive) (eq-eqb _ _ of_type)))
          (all-has (OutlivesNoAnswer config) first.entries e timely inside)
      hit e live of_type (inr fresh) = subst (λ c. IsFreshEntry config (sources c) e) of_type fresh

      hits : AreFreshHits s (sources code) code
      hits q e same is =
          let found = find-has (λ x. is_for q x && is_current s.now x) s.cache.entries e is in
          let both = and_parts (is_for q e) (is_current s.now e) found.1 in
          hit e both.1 (for-type q e both.0 ∙ same) (all-has (IsKnown config) s.cache.entries e known found.0)

      made : (stores : List Store) → AllByRecursion (HasArrived config code) stores → AllByRecursion (λ store. IfSome (entry_of_store config store) (IsFreshForType config sources)) stores
      made stores arrived =
          all-weaker (HasArrived config code) (λ store. IfSome (entry_of_store config store) (IsFreshForType config sources))
          (λ store h. makes-some (IsFreshForType config sources) config store (stores-fresh_entry config code store h)) stores arrived

      stored : (stores : List Store) → AllByRecursion (HasArrived config code) stores → after ≡ after_stores stores s.cache → AllByRecursion (IsKnown config) after.entries
      stored stores arrived e =
          subst (λ c. AllByRecursion (IsKnown config) c.entries) (sym e)
          (after_stores-all (IsKnown config) stores s.cache known (all-weaker (HasArrived config code) (Makes (IsKnown config) config) (stores-known_entry config code) stores arrived))

      out : p.result ≡ Err OutOfMemory → IsFreshReply config (sources code) code s.now p.result
      out e = subst (IsFreshReply config (sources code) code s.now) (sym e) tt

      caches : List CacheValue
      caches = one_cache s p.asks

      arrive : (h : HopList s caches p.question p.asks) → AllByRecursion (HasArrived config code) (stores_of s (passed_of s h.passed) h.last_hop h.last)
      arrive h =
          all-both (StoresArrived config (sources code)) (IsOfType code) (stores_of s (passed_of s h.passed) h.last_hop h.last)
          (hops-fresh s caches p.question p.asks (sources code) h hits there).stores (hops-typed s caches p.question p.asks h)

      by : (reply : IsReply s p.question p.asks p.result after) → IsSourcedPart config s p after reply
      by (inl whole) = record {
        stores = made _ (arrive whole.hops);
        fresh = λ zero. subst (IsFreshReply config (sources code) code s.now) (sym whole.result_is) ((hops-fresh s caches p.question p.asks (sources code) whole.hops hits there).reply zero);
        known = stored _ (arrive whole.hops) whole.after_is;
      }
      by (inr (e, inl cut)) =
          let front = all-front (HasArrived config code) cut.begun.front cut.begun.back (subst (AllByRecursion (HasArrived config code)) (sym cut.begun.parts) (arrive cut.hops)) in
          record { stores = made cut.begun.front front; fresh = λ zero. out e; known = stored cut.begun.front front cut.begun.after_is }
      by (inr (e, inr cut)) =
          record { stores = tt; fresh = λ zero. out e; known = subst (λ c. AllByRecursion (IsKnown config) c.entries) (sym cut.after_is) known }

  -- ---- along a call

  -- what holds of each cache on the way
  abbrev Holds : CacheValue → Type 0
  Holds c = (c.config ≡ first.config) × AllByRecursion (IsKnown first.config) c.entries

  abbrev IsAsked : SubLookup → Type 0
  IsAsked p = AllByRecursion (λ x. (code : ℕ) → ContainsByRecursion (sources code) (record { moment = now; exchange = x })) p.asks

  abbrev SourcedSubLookup : CallContext → Bool → CacheValue → Query → SubLookup → CacheValue → Type 0
  SourcedSubLookup t with_hosts before q p after = FreshlyStoredSubLookup sources t with_hosts before q p after × IsFreshSubLookup first.config sources now p

  sourced-step : (t : CallContext) → t.now ≡ now → (with_hosts : Bool) (before : CacheValue) (q : Query) (p : SubLookup) (after : CacheValue) → Holds before → IsAsked p → IsAnsweredFor t with_hosts before q p after
      → SourcedSubLookup t with_hosts before q p after × Holds after
  sourced-step t moment with_hosts before q p after (bounds, known) asked (for, is) = let there = by p.source refl is in (((for, there.0.0), there.0.1), there.1)
    where
      by : (source : Source) → p.source ≡ source → IsAnsweredFrom source t with_hosts before p after → (IsFreshlyStoredBy sources source t with_hosts before p after × IsFreshSubLookup first.config sources now p) × Holds after
      by Hosts e part = (
        (part, λ client. absurd (let clash : Hosts ≡ Client = sym e ∙ client in cc)),
        subst Holds (sym part.unchanged) (bounds, known),
      )
      by Client e part =
          let code = type_code p.question.query_type in
          let there = part-sourced (context_over t before) p after moment bounds (subst (λ c. AllByRecursion (IsKnown c) before.entries) (sym bounds) known)
          (subst (λ n. AllByRecursion (λ x. (code : ℕ) → ContainsByRecursion (sources code) (record { moment = n; exchange = x })) p.asks) (sym moment) asked) part.reply in (
            (
              (part, there.stores),
              λ client zero. subst (λ n. IsFreshReply first.config (sources code) code n p.result) moment
                  (subst (λ c. IsFreshReply c (sources code) code t.now p.result) bounds (there.fresh (subst (λ c. LeastTtlIsZero c code) (sym bounds) zero))),
            ),
            (
              reply-config (context_over t before) (one_cache (context_over t before) p.asks) p.question p.asks p.result after part.reply ∙ bounds,
              subst (λ c. AllByRecursion (IsKnown c) after.entries) bounds there.known,
            ),
          )

-- a call whose questions are answered in some way, or for which memory ran out before
pub told-by : (Answers : SubLookupRelation) (s : Settings) (before : CacheValue) (call : Call) (parts : List SubLookup) (reply : LookupResult) (after : CacheValue) → IsCallBy Answers s before call parts reply after → IsTold (IsOwnAnswer call) parts reply
told-by Answers s before call parts reply after (inl is) = told-call Answers s before call parts reply after is
told-by Answers s before call parts reply after (inr (none, e, same)) = told-unserved (IsOwnAnswer call) parts reply e

pub chain-by : (Answers : SubLookupRelation) (s : Settings) (before : CacheValue) (call : Call) (parts : List SubLookup) (reply : LookupResult) (after : CacheValue) → IsCallBy Answers s before call parts reply after → Chain Answers before parts after
chain-by Answers s before call parts reply after (inl is) = chain-call Answers s before call parts reply after is
chain-by Answers s before call parts reply after (inr (none, e, same)) = chain-none Answers before parts after none same

provenance : (s : Settings) (now : ℕ) (before : CacheValue) (call : Call) (parts : List SubLookup) (reply : LookupResult) (after : CacheValue) → IsCache before.config before.capacity before.entries → IsCallBy (IsAnsweredFor (call_context_at s now)) s before call parts reply after
    → HasCallProvenance s now before call parts reply after
provenance s now before call parts reply after cache is = by is
  where
    base : ℕ → List Dated
    base code = map dated_entry (filter (is_source now code) before.entries)

    sources : ℕ → List Dated
    sources = call_sources before now parts

    own : (code : ℕ) (e : Entry) → ContainsByRecursion before.entries e → is_source now code e ≡ true → ContainsByRecursion (sources code) (dated_entry e)
    own code e has passes =
        has-left (base code) (dated_exchanges now (asks_of_sub_lookups parts)) (dated_entry e)
        (has-map dated_entry (filter (is_source now code) before.entries) e (has-filter (is_source now code) before.entries e has passes))

    asked : AllByRecursion (λ p. AllByRecursion (λ x. (code : ℕ) → ContainsByRecursion (sources code) (record { moment = now; exchange = x })) p.asks) parts
    asked =
        asks-all (λ x. (code : ℕ) → ContainsByRecursion (sources code) (record { moment = now; exchange = x })) parts
        (has-all (λ x. (code : ℕ) → ContainsByRecursion (sources code) (record { moment = now; exchange = x })) (asks_of_sub_lookups parts)
        (λ x h code. all-has (λ y. ContainsByRecursion (sources code) (record { moment = now; exchange = y })) (asks_of_sub_lookups parts) x (own-sources (base code) now (asks_of_sub_lookups parts)) h))

    old : AllByRecursion (λ e. Contains before.entries e ⊎ IsFreshForType before.config sources e) before.entries
    old = has-all (λ e. Contains before.entries e ⊎ IsFreshForType before.config sources e) before.entries (λ e h. inl (contains-from_recursion before.entries e h))

    replies : AllByRecursion (IsFreshSubLookup before.config sources now) parts → AreFreshReplies before.config sources now call parts reply
    replies all = record { parts_are = all; answers_are = has-fresh (IsOwnAnswer call) before.config sources now parts reply all (told-by (IsAnsweredFor (call_context_at s now)) s before call parts reply after is) }

    by : IsCallBy (IsAnsweredFor (call_context_at s now)) s before call parts reply after → HasCallProvenance s now before call parts reply after
    by (inl is) =
        let Sourced = SourcedSubLookup now before cache sources own (call_context_at s now) in
        let there = call-along (IsAnsweredFor (call_context_at s now)) Sourced (Holds now before cache sources own) (IsAsked now before cache sources own)
        (sourced-step now before cache sources own (call_context_at s now) refl) s before call parts reply after (refl, old) asked is in
        record {
          replies = replies (chain-all Sourced (IsFreshSubLookup before.config sources now) (λ with_hosts mid q p end h. h.1) before parts after (chain-call Sourced s before call parts reply after there.0));
          stores = inl (call-weaker Sourced (FreshlyStoredSubLookup sources (call_context_at s now)) (λ with_hosts mid q p end h. h.0) s before call parts reply after there.0);
          entries = there.1.1;
        }
    by (inr (none, e, same)) = record {
      replies = replies (subst (AllByRecursion (IsFreshSubLookup before.config sources now)) (sym none) tt);
      stores = inr (none, e, same);
      entries = subst (λ c. AllByRecursion (λ e. Contains before.entries e ⊎ IsFreshForType before.config sources e) c.entries) (sym same) old;
    }

-- ---- by whatever covers the entries before

fresh_call : (s : Settings) (now : ℕ) (before : CacheValue) (call : Call) (parts : List SubLookup) (reply : LookupResult) (after : CacheValue) → IsCallBy (IsAnsweredFor (call_context_at s now)) s before call parts reply after → IsFreshCall now before call parts reply after
fresh_call s now before call parts reply after is earlier entries =
    let good = good-chain (call_context_at s now) before earlier parts after entries (chain-by (IsAnsweredFor (call_context_at s now)) s before call parts reply after is) in
    let received = earlier ++ dated_exchanges now (asks_of_sub_lookups parts) in (
      record { parts_are = good.fresh; answers_are = has-fresh (IsOwnAnswer call) before.config (λ code. received) now parts reply good.fresh (told-by (IsAnsweredFor (call_context_at s now)) s before call parts reply after is) },
      good.entries,
    )

-- ---- few questions

part-few : (t : CallContext) (with_hosts : Bool) (before : CacheValue) (q : Query) (p : SubLookup) (after : CacheValue) → IsAnsweredFor t with_hosts before q p after → length p.asks ≤ 8
part-few t with_hosts before q p after (for, is) = by p.source is
  where
    by : (source : Source) → IsAnsweredFrom source t with_hosts before p after → length p.asks ≤ 8
    by Hosts part = omega (arith, ap length part.nothing_asked)
    by Client part = few (context_over t before) (one_cache (context_over t before) p.asks) p.question p.asks p.result after part.reply

pub few_call : (s : Settings) (now : ℕ) (before : CacheValue) (call : Call) (parts : List SubLookup) (reply : LookupResult) (after : CacheValue) → IsCallBy (IsAnsweredFor (call_context_at s now)) s before call parts reply after → AllByRecursion (λ p. length p.asks ≤ 8) parts
few_call s now before call parts reply after is = chain-all (IsAnsweredFor (call_context_at s now)) (λ p. length p.asks ≤ 8) (part-few (call_context_at s now)) before parts after (chain-by (IsAnsweredFor (call_context_at s now)) s before call parts reply after is)

-- ---- no alias outlives its CNAMEs

limited_call : (s : Settings) (now : ℕ) (before : CacheValue) (call : Call) (parts : List SubLookup) (reply : LookupResult) (after : CacheValue) → IsCallBy (IsAnsweredFor (call_context_at s now)) s before call parts reply after → IsCallBy (SubLookupOutlivesNoAlias (call_context_at s now)) s before call parts reply after
limited_call s now before call parts reply after (inl is) = inl (call-weaker (IsAnsweredFor (call_context_at s now)) (SubLookupOutlivesNoAlias (call_context_at s now)) (part_limited (call_context_at s now)) s before call parts reply after is)
limited_call s now before call parts reply after (inr unserved) = inr unserved

-- ---- transparency

pub out-is : (r : LookupResult) → is_out_of_memory r ≡ true → r ≡ Err OutOfMemory
out-is (Ok l) e = cc
out-is (Err (Message text)) e = cc
out-is (Err Timeout) e = cc
out-is (Err (Proto error)) e = cc
out-is (Err (Dns error)) e = cc
out-is (Err NoOutcome) e = cc
out-is (Err (Bounds error)) e = cc
out-is (Err OutOfMemory) e = refl

transparent_call : (s : Settings) (now : ℕ) (before : CacheValue) (call : Call) (parts : List SubLookup) (reply : LookupResult) (after : CacheValue) → IsCallBy (IsAnsweredFor (call_context_at s now)) s before call parts reply after → IsTransparentCall s now before call parts reply after
transparent_call s now before call parts reply after (inr (none, e, same)) table off apart tells meant has = (inl e, subst (AreWhatTheyResolveTo table) (sym same) meant)
transparent_call s now before call parts reply after (inl is) table off apart tells meant has = (by there.0, there.1)
  where
    there : ((is_out_of_memory reply ≡ true) ⊎ IsCall (CachelessSubLookup table (call_context_at s now)) s before call parts reply before) × AreWhatTheyResolveTo table after
    there = call-alike table s before before now call parts reply after (record { apart = apart; off = off }) meant has tells is

    by : (is_out_of_memory reply ≡ true) ⊎ IsCall (CachelessSubLookup table (call_context_at s now)) s before call parts reply before → (reply ≡ Err OutOfMemory) ⊎ IsCall (CachelessSubLookup table (call_context_at s now)) s before call parts reply before
    by (inl out) = inl (out-is reply out)
    by (inr alike) = inr alike

-- ---- a call

pub promised_call : {H : Type 0} (step : HandleStep H) (now : ℕ) (call : Call) (before : ResolverValue H) (result : LookupResult) (after : ResolverValue H) → IsCache before.client.cache.config before.client.cache.capacity before.client.cache.entries → AnswersCall step now call before result after
    → IsPromisedCall step now call before result after
promised_call step now call before result after cache is =
    let s = settings before in
    let first = before.client.cache in
    let last = after.client.cache in
    let by : IsCallBy (IsAnsweredFor (call_context_at s now)) s first call is.parts result last = call_by-alone (call_context_at s now) s first call is.parts result last is.is in
    record {
      is = is;
      few = few_call s now first call is.parts result last by;
      provenance = provenance s now first call is.parts result last cache by;
      fresh = fresh_call s now first call is.parts result last by;
      transparent = transparent_call s now first call is.parts result last by;
      no_alias_outlives = limited_call s now first call is.parts result last by;
    }

pub promised_name : {H : Type 0} (step : HandleStep H) (Gives : Result NameValue NameError → Type 0) (t : RecordType) (now : ℕ) (before : ResolverValue H) (result : LookupResult) (after : ResolverValue H) → IsCache before.client.cache.config before.client.cache.capacity before.client.cache.entries
    → AnswersName step Gives t now before result after → PromisesName step Gives t now before result after
promised_name step Gives t now before result after cache (name, gives, is) = (name, gives, promised_call step now (name_call t name) before result after cache is)

pub promised_host : {H : Type 0} (step : HandleStep H) (Spells : Option IpAddr → Type 0) (Gives : Result NameValue NameError → Type 0) (now : ℕ) (before : ResolverValue H) (result : LookupResult) (after : ResolverValue H) → IsCache before.client.cache.config before.client.cache.capacity before.client.cache.entries
    → AnswersHost step Spells Gives now before result after → PromisesHost step Spells Gives now before result after
promised_host step Spells Gives now before result after cache (address, spells, name, gives, inl (read, is)) = (address, spells, name, gives, inl (read, promised_call step now (address_call (settings before) address name now) before result after cache is))
promised_host step Spells Gives now before result after cache (address, spells, name, gives, inr out) = (address, spells, name, gives, inr out)

-- ---- a clear

pub cleared-keeps : (cache : CacheValue) → KeepsWhatIsKnown cache (record cache { entries = [] })
cleared-keeps cache = record { covered = λ sources entries. tt; meant = λ table entries. tt }

pub without_query-keeps : (cache : CacheValue) (q : Query) → KeepsWhatIsKnown cache (without_query cache q)
without_query-keeps cache q = record {
  covered = λ sources entries. all-filter (IsFreshEntry cache.config sources) (λ e. not (is_for q e)) cache.entries entries;
  meant = λ table entries. all-filter (IsWhatItResolvesTo table) (λ e. not (is_for q e)) cache.entries entries;
}

pub after_clear-keeps : (s : Settings) (t : RecordType) (name : Result NameValue NameError) (cache : CacheValue) → KeepsWhatIsKnown cache (after_clear s t name cache)
after_clear-keeps s t (Ok n) cache = record {
  covered = λ sources entries. drop_each-fresh sources t (attempts s.search n) cache entries;
  meant = λ table entries. drop_each-meant table t (attempts s.search n) cache entries;
}
after_clear-keeps s t (Err fault) cache = record { covered = λ sources entries. entries; meant = λ table entries. entries }
