-- No record of the asked type that a look-up gives or stores outlives what was received.
use Rattle.std.proofs.Common.{◌≡◌, ◌⊎◌, ◌≤◌, ℕ, ◌+◌, ◌-◌, Bool, true, false, ◌&&◌, ◌==◌, List, [], ◌++◌, map, min, ◌||◌, not, Option, Some, None, Ok, Err, refl, sym, ap, ◌∙◌, subst, arith, inl, inr, if◌then◌else◌}
use Rattle.std.proofs.lemmas.Bool.{and_parts, leb-true, eqb-true}
use Rattle.std.specs.List.{AllByRecursion}
use Rattle.std.specs.Option.{option_map_or}
use Rattle.hickory_proto_core.specs.Name.{name_eq}
use Rattle.hickory_proto_core.specs.Codes.{type_code, class_code, response_code}
use Rattle.hickory_proto_core.specs.Records.{RecordValue, DataValue}
use Rattle.hickory_proto_core.specs.Messages.{MessageValue}
use Rattle.hickory_proto_core.specs.ResponseKind.{ResponseKind, Answer, Negative, Failed, kind_of, contains_answer, negative_of, record_type_code, is_empty}
use Rattle.hickory_proto_core.specs.Handles.{OutcomeValue}
use Rattle.hickory_proto_core.specs.declared.query.Query.{Query}
use Rattle.hickory_proto_core.specs.declared.recorded.Exchange.{Exchange}
use Rattle.hickory_proto_core.specs.codes.response_code.ResponseCode.TheVariants.{NoError, NXDomain}
use Rattle.hickory_proto_core.specs.declared.net_error.NetError.TheVariants.{Message, Timeout, Proto, Dns, NoOutcome, Bounds, OutOfMemory}
use Rattle.hickory_proto_core.specs.declared.net_error.DnsError.TheVariants.{ResponseCode, NoRecordsFound}
use Rattle.hickory_resolver_model.specs.Bounds.{ConfigValue, clamped_record, greatest_ttl}
use Rattle.hickory_resolver_model.specs.Cache.{CacheValue, Entry, current, is_for, is_current, age, aged_record, aged_records, aged_outcome, aged_message}
use Rattle.hickory_resolver_model.specs.Lookup.{LookupResult, hit_lookup, hit_seconds}
use Rattle.hickory_resolver_model.specs.SpecialUse.{special_use_result, is_loopback_name, is_nonexistent_name, loopback_data, one_record, no_records}
use Rattle.hickory_resolver_model.specs.AliasWalk.{Walk, walk_of}
use Rattle.hickory_resolver_model.specs.Verdict.{Hop, Accepted, LeadsTo, NoMatch, is_accepted, found_message, next_hop, all_records, with_ttl_at_most}
use Rattle.hickory_resolver_model.specs.Hops.{LookupContext, ChainEnd, Special, Hit, Asked, IsChainEnd, HopList, Store, IsReplyOver, PassedValue, passed_of, asks_of, hit_result, result_of_verdict, result_when_asked, result_of, alias_limit, end_limit, limit_of, is_asked, result_until, reply_of, stores_of_verdict, stores_when_asked, last_stores, earlier_store, stores_of, after_stores}
use Rattle.hickory_resolver_theorems.specs.Covered.{Dated, dated_exchanges, IsCovered, IsLoopback}
use Rattle.hickory_resolver_theorems.specs.Statements.{LeastTtlIsZero, IsFreshRecord, AreFreshRecords, IsFreshReply, IsFreshOutcome, IsFreshEntry, AreFreshEntries, IsFresh}
use Rattle.hickory_resolver_theorems.proofs.Lists.{all-weaker, all-append, all-front, all-back, all-map, all-has, has-all, has-right, has-map, find-has, ContainsByRecursion, contains-from_recursion}
use Rattle.hickory_resolver_theorems.proofs.Covers.{Arrives, arrived-fresh, fresh-arrives, fresh-sooner, covered-has, covered-lower, clamped_message-le, clamped_message-greatest, greatest-short, least-has, saturating-le}
use Rattle.hickory_resolver_theorems.proofs.VerdictFacts.{KeepsType, leads-keep, found-answers}
use Rattle.hickory_resolver_theorems.proofs.Stores.{StoresArrived, stores-fresh, entries-more, earlier-all}

-- ---- special names

special_use_result-fresh : (config : ConfigValue) (sources : List Dated) (q : Query) (now : ℕ) (reply : LookupResult) → special_use_result q now ≡ Some reply → IsFreshReply config sources (type_code q.query_type) now reply
special_use_result-fresh config sources q now reply h =
    by (class_code q.query_class == 1) (is_loopback_name q.name) refl (loopback_data (type_code q.query_type)) refl (is_nonexistent_name q.name) h
  where
    code : ℕ
    code = type_code q.query_type

    on_data : Option DataValue → LookupResult
    on_data o = option_map_or (λ rdata. Ok (one_record q rdata now)) o (Err (no_records q NoError))

    record_is : is_loopback_name q.name ≡ true → (rdata : DataValue) → loopback_data code ≡ Some rdata → IsFreshReply config sources code now (Ok (one_record q rdata now))
    record_is zone rdata e = ((λ same. inl (refl, zone, ap loopback_data same ∙ e)), tt)

    by : (internet loopback : Bool) → is_loopback_name q.name ≡ loopback → (rdata : Option DataValue) → loopback_data code ≡ rdata → (nonexistent : Bool)
        → (if internet then (if loopback then Some (on_data rdata) else (if nonexistent then Some (Err (no_records q NXDomain)) else None)) else None) ≡ Some reply
        → IsFreshReply config sources code now reply
    by false loopback z rdata e nonexistent k = cc
    by true true z (Some rdata) e nonexistent k = let same : Ok (one_record q rdata now) ≡ reply = cc in subst (IsFreshReply config sources code now) same (record_is z rdata e)
    by true true z None e nonexistent k = let same : Err (no_records q NoError) ≡ reply = cc in subst (IsFreshReply config sources code now) same tt
    by true false z rdata e true k = let same : Err (no_records q NXDomain) ≡ reply = cc in subst (IsFreshReply config sources code now) same tt
    by true false z rdata e false k = cc

-- ---- hits

-- a question's entry is for a question of its type
pub for-type : (q : Query) (e : Entry) → is_for q e ≡ true → type_code e.query.query_type ≡ type_code q.query_type
for-type q e h =
    let parts = and_parts (name_eq q.name e.query.name && (type_code q.query_type == type_code e.query.query_type)) (class_code q.query_class == class_code e.query.query_class) h in
    let front = and_parts (name_eq q.name e.query.name) (type_code q.query_type == type_code e.query.query_type) parts.0 in
    sym (eqb-true _ _ front.1)

aged_result-fresh : (config : ConfigValue) (sources : List Dated) (code now moment deadline : ℕ) (rs : List RecordValue) → now ≤ deadline → AreFreshRecords config sources code moment deadline rs
    → (until : ℕ) → ((r : RecordValue) → ContainsByRecursion (aged_records (age moment now) rs) r → until ≤ now + r.ttl)
    → AreFreshRecords config sources code now until (aged_records (age moment now) rs)
aged_result-fresh config sources code now moment deadline rs live fresh until each =
    all-map (IsFreshRecord config sources code now until) (aged_record seconds) rs
    (has-all (λ r. IsFreshRecord config sources code now until (aged_record seconds r)) rs (λ r h same. of r (each (aged_record seconds r) (has-map (aged_record seconds) rs r h)) (all-has (IsFreshRecord config sources code moment deadline) rs r fresh h same)))
  where
    seconds : ℕ
    seconds = age moment now

    of : (r : RecordValue) → until ≤ now + (aged_record seconds r).ttl → IsLoopback r ⊎ (IsCovered config sources moment r × (r.ttl ≤ greatest_ttl config code) × (deadline ≤ moment + r.ttl))
        → IsLoopback (aged_record seconds r) ⊎ (IsCovered config sources now (aged_record seconds r) × ((aged_record seconds r).ttl ≤ greatest_ttl config code) × (until ≤ now + (aged_record seconds r).ttl))
    of r least (inl loop) = inl loop
    of r least (inr (covered, short, stays)) =
        inr (covered-lower config sources moment now (r.ttl - seconds) r (omega (arith, live, stays, short, greatest-short config code)) covered, omega (arith, short), least)

hit-fresh : (config : ConfigValue) (sources : List Dated) (q : Query) (now : ℕ) (e : Entry) (o : OutcomeValue) → is_for q e ≡ true → now ≤ e.valid_until → LeastTtlIsZero config (type_code q.query_type) → IsFreshOutcome config sources e o
    → IsFreshReply config sources (type_code q.query_type) now (hit_result q now (aged_outcome (age e.original_time now) o))
hit-fresh config sources q now e (Ok m) own live zero fresh =
    let code = type_code q.query_type in
    let same = for-type q e own in
    let given : AreFreshRecords config sources code e.original_time e.valid_until m.answers =
    subst (λ c. AreFreshRecords config sources c e.original_time e.valid_until m.answers) same (fresh (subst (LeastTtlIsZero config) (sym same) zero)) in
    let seconds = age e.original_time now in
    let left = aged_message seconds m in
    aged_result-fresh config sources code now e.original_time e.valid_until m.answers live given (hit_lookup q left now).valid_until
    (λ r h. omega (arith, saturating-le now (hit_seconds left), least-has (map (λ x. x.ttl) left.answers) r.ttl 86400 (has-map (λ x. x.ttl) left.answers r h)))
hit-fresh config sources q now e (Err error) own live zero fresh = tt

-- ---- accepted responses

abbrev pub Same : OutcomeValue → OutcomeValue → Type 0
Same a b = a ≡ b

-- an answer is a response
pub class-answer : (outcome : OutcomeValue) (response : MessageValue) → kind_of outcome ≡ Answer response → outcome ≡ Ok response
class-answer (Ok m) response h = by ((code == 0) || (code == 3)) (m.metadata.truncation || contains_answer m) h
  where
    code : ℕ
    code = response_code m.metadata.response_code

    by : (a b : Bool) → (if a then (if b then Answer m else Negative (negative_of m)) else Failed (Dns (ResponseCode m.metadata.response_code))) ≡ Answer response → Same (Ok m) (Ok response)
    by true true k = cc
    by true false k = cc
    by false b k = cc
class-answer (Err (Dns (NoRecordsFound n))) response h = cc
class-answer (Err (Dns (ResponseCode code))) response h = cc
class-answer (Err (Message text)) response h = cc
class-answer (Err Timeout) response h = cc
class-answer (Err (Proto error)) response h = cc
class-answer (Err NoOutcome) response h = cc
class-answer (Err (Bounds error)) response h = cc
class-answer (Err OutOfMemory) response h = cc

-- a record of a response that came, with its TTL or a lower one, is covered once it is clamped
received-arrives : (config : ConfigValue) (sources : List Dated) (now code : ℕ) (x : Exchange) (response : MessageValue) → LeastTtlIsZero config code → ContainsByRecursion sources (record { moment = now; exchange = x }) → x.outcome ≡ Ok response
    → (r : RecordValue) → ContainsByRecursion (all_records response) r → (ttl : ℕ) → ttl ≤ r.ttl → Arrives config sources code now (record r { ttl = ttl })
received-arrives config sources now code x response zero there came r brought ttl le same =
    let low : RecordValue = record r { ttl = ttl } in
    let none : LeastTtlIsZero config (record_type_code low) = subst (LeastTtlIsZero config) (sym same) zero in
    inr (covered-has config sources now (clamped_record config low) (record { moment = now; exchange = x }) there (record {
      response = response;
      came = came;
      received = r;
      brought = contains-from_recursion (all_records response) r brought;
      equal = refl;
      reaches = omega (arith, le, clamped_message-le config low none, clamped_message-greatest config low none);
    }))

found-arrives : (config : ConfigValue) (sources : List Dated) (now code : ℕ) (keep : Bool) (hop : Hop) (x : Exchange) (response : MessageValue) → KeepsType code hop → LeastTtlIsZero config code → ContainsByRecursion sources (record { moment = now; exchange = x }) → x.outcome ≡ Ok response
    → AllByRecursion (Arrives config sources code now) (found_message keep hop (walk_of hop.query response.answers) response).answers
found-arrives config sources now code keep hop x response keeps zero there came =
    found-answers Comes keep hop walk response (all-weaker (λ r. record_type_code r ≡ code → ⊥) Comes (λ r other same. absurd (other same)) hop.preserved keeps.others)
    (has-all (λ r. Comes r × Comes (with_ttl_at_most walk.ttl r)) (all_records response) (λ r h. (each r h r.ttl (omega arith), each r h (min r.ttl walk.ttl) (omega arith))))
  where
    Comes : RecordValue → Type 0
    Comes = Arrives config sources code now

    walk : Walk
    walk = walk_of hop.query response.answers

    each : (r : RecordValue) → ContainsByRecursion (all_records response) r → (ttl : ℕ) → ttl ≤ r.ttl → Comes (record r { ttl = ttl })
    each = received-arrives config sources now code x response zero there came

-- ---- the result of a list of hops

-- each hit of a question of this type is fresh
abbrev pub AreFreshHits : LookupContext → List Dated → ℕ → Type 0
AreFreshHits s sources code = (q : Query) (e : Entry) → type_code q.query_type ≡ code → current q s.now s.cache.entries ≡ Some e → IsFreshEntry s.cache.config sources e

pub hits-fresh : (s : LookupContext) (sources : List Dated) (code : ℕ) → AreFreshEntries s.cache sources → AreFreshHits s sources code
hits-fresh s sources code fresh q e same is =
    all-has (IsFreshEntry s.cache.config sources) s.cache.entries e fresh (find-has (λ x. is_for q x && is_current s.now x) s.cache.entries e is).0

result-fresh : (s : LookupContext) (sources : List Dated) (hop : Hop) (count : ℕ) (last : ChainEnd) (cache : CacheValue) → KeepsType (type_code hop.query.query_type) hop → AreFreshHits s sources (type_code hop.query.query_type) → LeastTtlIsZero s.cache.config (type_code hop.query.query_type)
    → AllByRecursion (λ x. ContainsByRecursion sources (record { moment = s.now; exchange = x })) (asks_of hop last) → IsChainEnd (record s { cache = cache }) count hop last → (is_asked last ≡ false → cache ≡ s.cache)
    → IsFreshReply s.cache.config sources (type_code hop.query.query_type) s.now (result_of s hop last)
result-fresh s sources hop count (Special reply) cache keeps fresh zero there ends own = special_use_result-fresh s.cache.config sources hop.query s.now reply ends
result-fresh s sources hop count (Hit entry) cache keeps fresh zero there ends own =
    let is : current hop.query s.now s.cache.entries ≡ Some entry = subst (λ c. current hop.query s.now c.entries ≡ Some entry) (own refl) ends.1 in
    let found = find-has (λ e. is_for hop.query e && is_current s.now e) s.cache.entries entry is in
    let both = and_parts (is_for hop.query entry) (is_current s.now entry) found.1 in
    hit-fresh s.cache.config sources hop.query s.now entry entry.result both.0 (leb-true _ _ both.1) zero (fresh hop.query entry refl is)
result-fresh s sources hop count (Asked outcome) cache keeps fresh zero there ends own = by (kind_of outcome) refl
  where
    config : ConfigValue
    config = s.cache.config

    code : ℕ
    code = type_code hop.query.query_type

    x : Exchange
    x = record { query = hop.query; outcome = outcome }

    on : (response : MessageValue) → outcome ≡ Ok response → (accepted nowhere : Bool)
        → IsFreshReply config sources code s.now (result_of_verdict config hop.query s.now response (if accepted then Accepted (found_message s.preserve_intermediates hop (walk_of hop.query response.answers) response) else (if nowhere then NoMatch else LeadsTo (next_hop s.preserve_intermediates hop (walk_of hop.query response.answers) response))))
    on response came true nowhere =
        arrived-fresh config sources hop.query s.now (found_message s.preserve_intermediates hop (walk_of hop.query response.answers) response) zero
        (found-arrives config sources s.now code s.preserve_intermediates hop x response keeps zero there.0 came)
    on response came false true = tt
    on response came false false = tt

    by : (c : ResponseKind) → kind_of outcome ≡ c → IsFreshReply config sources code s.now (result_when_asked s hop c)
    by (Answer response) e = on response (class-answer outcome response e) (is_accepted hop (walk_of hop.query response.answers) response) (is_empty (walk_of hop.query response.answers).places)
    by (Negative none) e = tt
    by (Failed error) e = tt

-- a limit makes no deadline later
until-fresh : (config : ConfigValue) (sources : List Dated) (code now limit : ℕ) (result : LookupResult) → IsFreshReply config sources code now result → IsFreshReply config sources code now (result_until limit result)
until-fresh config sources code now limit (Ok l) fresh = fresh-sooner config sources code now l.valid_until (min l.valid_until limit) l.message.answers (omega arith) fresh
until-fresh config sources code now limit (Err e) fresh = tt

reply-fresh : (s : LookupContext) (sources : List Dated) (code : ℕ) (passed : List PassedValue) (hop : Hop) (last : ChainEnd) → IsFreshReply s.cache.config sources code s.now (result_of s hop last) → IsFreshReply s.cache.config sources code s.now (reply_of s passed hop last)
reply-fresh s sources code passed hop last fresh = by (is_asked last || not (is_empty passed))
  where
    by : (b : Bool) → IsFreshReply s.cache.config sources code s.now (if b then result_until (limit_of passed (end_limit s hop last)) (result_of s hop last) else result_of s hop last)
    by true = until-fresh s.cache.config sources code s.now (limit_of passed (end_limit s hop last)) (result_of s hop last) fresh
    by false = fresh

-- ---- what it stores

last-arrives : (s : LookupContext) (sources : List Dated) (hop : Hop) (last : ChainEnd) → KeepsType (type_code hop.query.query_type) hop → AllByRecursion (λ x. ContainsByRecursion sources (record { moment = s.now; exchange = x })) (asks_of hop last)
    → AllByRecursion (StoresArrived s.cache.config sources) (last_stores s hop last)
last-arrives s sources hop (Special reply) keeps there = tt
last-arrives s sources hop (Hit entry) keeps there = tt
last-arrives s sources hop (Asked outcome) keeps there = by (kind_of outcome) refl
  where
    config : ConfigValue
    config = s.cache.config

    x : Exchange
    x = record { query = hop.query; outcome = outcome }

    on : (response : MessageValue) → outcome ≡ Ok response → (accepted nowhere : Bool)
        → AllByRecursion (StoresArrived config sources) (stores_of_verdict hop.query s.now (alias_limit s hop.query (Answer response)) (if accepted then Accepted (found_message s.preserve_intermediates hop (walk_of hop.query response.answers) response) else (if nowhere then NoMatch else LeadsTo (next_hop s.preserve_intermediates hop (walk_of hop.query response.answers) response))))
    on response came true nowhere = ((λ zero. found-arrives config sources s.now (type_code hop.query.query_type) s.preserve_intermediates hop x response keeps zero there.0 came), tt)
    on response came false true = tt
    on response came false false = tt

    by : (c : ResponseKind) → kind_of outcome ≡ c → AllByRecursion (StoresArrived config sources) (stores_when_asked s hop c)
    by (Answer response) e = on response (class-answer outcome response e) (is_accepted hop (walk_of hop.query response.answers) response) (is_empty (walk_of hop.query response.answers).places)
    by (Negative none) e = (tt, tt)
    by (Failed error) e = tt

-- a fresh result arrives once more under an earlier question of the same type
again-arrives : (config : ConfigValue) (sources : List Dated) (now code : ℕ) (q : Query) (reply : LookupResult) (limit : ℕ) → type_code q.query_type ≡ code → (LeastTtlIsZero config code → IsFreshReply config sources code now reply) → StoresArrived config sources (earlier_store reply now q limit)
again-arrives config sources now code q (Ok l) limit same fresh = λ zero.
    subst (λ c. AllByRecursion (Arrives config sources c now) l.message.answers) (sym same)
    (fresh-arrives config sources code now l.valid_until l.message.answers (subst (LeastTtlIsZero config) same zero) (fresh (subst (LeastTtlIsZero config) same zero)))
again-arrives config sources now code q (Err e) limit same fresh = tt

-- ---- a look-up

-- what is known of a list of hops, with its own exchanges among the sources
pub record AreFreshHops (s : LookupContext) (caches : List CacheValue) (question : Query) (asks : List Exchange) (sources : List Dated) (h : HopList s caches question asks) : Type 0 where
  pub reply : LeastTtlIsZero s.cache.config (type_code question.query_type) → IsFreshReply s.cache.config sources (type_code question.query_type) s.now (reply_of s (passed_of s h.passed) h.last_hop h.last)
  pub stores : AllByRecursion (StoresArrived s.cache.config sources) (stores_of s (passed_of s h.passed) h.last_hop h.last)

pub hops-fresh : (s : LookupContext) (caches : List CacheValue) (question : Query) (asks : List Exchange) (sources : List Dated) (h : HopList s caches question asks) → AreFreshHits s sources (type_code question.query_type) → AllByRecursion (λ x. ContainsByRecursion sources (record { moment = s.now; exchange = x })) asks
    → AreFreshHops s caches question asks sources h
hops-fresh s caches question asks sources h fresh there = record {
  reply = λ zero. reply-fresh s sources code (passed_of s h.passed) h.last_hop h.last (reply zero);
  stores = all-append (StoresArrived s.cache.config sources) (last_stores s h.last_hop h.last) _ (last-arrives s sources h.last_hop h.last own last_there)
      (earlier-all (StoresArrived s.cache.config sources) s result (end_limit s h.last_hop h.last) h.passed
      (all-weaker (λ x. type_code x.query.query_type ≡ code) (λ x. (limit : ℕ) → StoresArrived s.cache.config sources (earlier_store result s.now x.query limit)) (λ x same limit. again-arrives s.cache.config sources s.now code x.query result limit same reply) h.passed leads.1));
}
  where
    code : ℕ
    code = type_code question.query_type

    result : LookupResult
    result = result_of s h.last_hop h.last

    leads : KeepsType code h.last_hop × AllByRecursion (λ x. type_code x.query.query_type ≡ code) h.passed
    leads = leads-keep code s h.before (record { query = question; preserved = [] }) h.passed h.last_hop (record { type_is = refl; others = tt }) h.leads

    own : KeepsType (type_code h.last_hop.query.query_type) h.last_hop
    own = subst (λ c. KeepsType c h.last_hop) (sym leads.0.type_is) leads.0

    each : AllByRecursion (λ x. ContainsByRecursion sources (record { moment = s.now; exchange = x })) (h.passed ++ asks_of h.last_hop h.last)
    each = subst (AllByRecursion (λ x. ContainsByRecursion sources (record { moment = s.now; exchange = x }))) h.asks_are there

    last_there : AllByRecursion (λ x. ContainsByRecursion sources (record { moment = s.now; exchange = x })) (asks_of h.last_hop h.last)
    last_there = all-back (λ x. ContainsByRecursion sources (record { moment = s.now; exchange = x })) h.passed (asks_of h.last_hop h.last) each

    reply : LeastTtlIsZero s.cache.config code → IsFreshReply s.cache.config sources code s.now result
    reply zero = subst (λ c. IsFreshReply s.cache.config sources c s.now result) leads.0.type_is
        (result-fresh s sources h.last_hop _ h.last h.last_cache own (subst (AreFreshHits s sources) (sym leads.0.type_is) fresh) (subst (LeastTtlIsZero s.cache.config) (sym leads.0.type_is) zero) last_there h.ends h.at_once)

-- the exchanges of a look-up are among its sources
pub own-sources : (sources : List Dated) (now : ℕ) (asks : List Exchange) → AllByRecursion (λ x. ContainsByRecursion (sources ++ dated_exchanges now asks) (record { moment = now; exchange = x })) asks
own-sources sources now asks =
    has-all (λ x. ContainsByRecursion (sources ++ dated_exchanges now asks) (record { moment = now; exchange = x })) asks
    (λ x h. has-right sources (dated_exchanges now asks) (record { moment = now; exchange = x }) (has-map (λ y. record { moment = now; exchange = y }) asks x h))

-- where the sources cover the entries before it, and have its exchanges, they cover its reply and the entries after it
pub fresh-within : (s : LookupContext) (caches : List CacheValue) (question : Query) (asks : List Exchange) (result : LookupResult) (after : CacheValue) (sources : List Dated) → IsReplyOver s caches question asks result after → AreFreshEntries s.cache sources → AllByRecursion (λ x. ContainsByRecursion sources (record { moment = s.now; exchange = x })) asks
    → (LeastTtlIsZero s.cache.config (type_code question.query_type) → IsFreshReply s.cache.config sources (type_code question.query_type) s.now result) × AreFreshEntries after sources
fresh-within s caches question asks result after sources reply known own = by reply
  where
    stored : (stores : List Store) → AllByRecursion (StoresArrived s.cache.config sources) stores → after ≡ after_stores stores s.cache → AreFreshEntries after sources
    stored stores arrive e = subst (λ c. AreFreshEntries c sources) (sym e) (stores-fresh s.cache sources stores known arrive)

    out : result ≡ Err OutOfMemory → IsFreshReply s.cache.config sources (type_code question.query_type) s.now result
    out e = subst (IsFreshReply s.cache.config sources (type_code question.query_type) s.now) (sym e) tt

    hops : (h : HopList s caches question asks) → AreFreshHops s caches question asks sources h
    hops h = hops-fresh s caches question asks sources h (hits-fresh s sources (type_code question.query_type) known) own

    by : IsReplyOver s caches question asks result after → (LeastTtlIsZero s.cache.config (type_code question.query_type) → IsFreshReply s.cache.config sources (type_code question.query_type) s.now result) × AreFreshEntries after sources
    by (inl whole) = (
      (λ zero. subst (IsFreshReply s.cache.config sources (type_code question.query_type) s.now) (sym whole.result_is) ((hops whole.hops).reply zero)),
      stored _ (hops whole.hops).stores whole.after_is,
    )
    by (inr (e, inl cut)) = (
      (λ zero. out e),
      stored cut.begun.front (all-front (StoresArrived s.cache.config sources) cut.begun.front cut.begun.back (subst (AllByRecursion (StoresArrived s.cache.config sources)) (sym cut.begun.parts) (hops cut.hops).stores)) cut.begun.after_is,
    )
    by (inr (e, inr cut)) = ((λ zero. out e), subst (λ c. AreFreshEntries c sources) (sym cut.after_is) known)

pub fresh : (s : LookupContext) (caches : List CacheValue) (question : Query) (asks : List Exchange) (result : LookupResult) (after : CacheValue) → IsReplyOver s caches question asks result after → IsFresh s question asks result after
fresh s caches question asks result after reply sources entries =
    fresh-within s caches question asks result after (sources ++ dated_exchanges s.now asks) reply (entries-more s.cache sources (dated_exchanges s.now asks) entries) (own-sources sources s.now asks)
