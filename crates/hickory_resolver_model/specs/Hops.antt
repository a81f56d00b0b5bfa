-- What a look-up asks, answers and stores, as a list of hops: each is a question on the way of an alias to
-- the next, and the last one has the result.
use Rattle.std.specs.Prelude.{◌≡◌, ◌⊎◌, ◌≤◌, ℕ, Bool, true, false, not, ◌||◌, List, [], ◌∷◌, ◌++◌, length, map, min, Option, Some, None, Ok, Err, if◌then◌else◌}
use Rattle.std.specs.Option.{option_map}
use Rattle.hickory_proto_core.specs.Codes.{type_code}
use Rattle.hickory_proto_core.specs.Messages.{MessageValue}
use Rattle.hickory_proto_core.specs.Handles.{OutcomeValue, holds_memory}
use Rattle.hickory_proto_core.specs.NetErrors.{is_no_records_found}
use Rattle.hickory_proto_core.specs.ResponseKind.{ResponseKind, Answer, Negative, Failed, kind_of, first_soa, negative_ttl_of, is_empty}
use Rattle.hickory_proto_core.specs.codes.record_type.RecordType.TheVariants as type
use Rattle.hickory_proto_core.specs.declared.query.Query.{Query}
use Rattle.hickory_proto_core.specs.declared.recorded.Exchange.{Exchange}
use Rattle.hickory_proto_core.specs.declared.net_error.NetError.{NetError}
use Rattle.hickory_proto_core.specs.declared.net_error.NetError.TheVariants.{Dns, OutOfMemory}
use Rattle.hickory_proto_core.specs.declared.net_error.DnsError.TheVariants.{NoRecordsFound}
use Rattle.hickory_resolver_model.specs.Bounds.{ConfigValue, bounds_for, positive_bounds, reduced_bounds, clamp}
use Rattle.hickory_resolver_model.specs.Cache.{CacheValue, Entry, last_moment, saturating_sum, current, aged_result, entry_of, not_after, store_until}
use Rattle.hickory_resolver_model.specs.Lookup.{LookupResult, hit_lookup, found_lookup, response_to}
use Rattle.hickory_resolver_model.specs.SpecialUse.{special_use_result}
use Rattle.hickory_resolver_model.specs.AliasWalk.{walk_of}
use Rattle.hickory_resolver_model.specs.Verdict.{Hop, first_hop, Verdict, Accepted, LeadsTo, NoMatch, verdict}

-- where a look-up stands: the cache that it reads, the moment of its start, and whether intermediate records are
-- preserved
pub record LookupContext : Type 0 where
  pub cache : CacheValue
  pub now : ℕ
  pub preserve_intermediates : Bool

-- a question is asked upstream where it is not special and has no current entry in the cache that is read
abbrev pub GoesUpstream : LookupContext → Query → Type 0
GoesUpstream s q = (special_use_result q s.now ≡ None) × (current q s.now s.cache.entries ≡ None)

-- where nothing was asked and memory ran out, there was a reply to copy: that of a special name or of a current entry
abbrev pub RunsOutForAReply : LookupContext → Query → List Exchange → LookupResult → Type 0
RunsOutForAReply s question asks result = asks ≡ [] → result ≡ Err OutOfMemory → GoesUpstream s question → ⊥

-- the verdict on a response of the kind Answer
abbrev pub verdict_on : LookupContext → Hop → ResponseKind → Option Verdict
verdict_on s hop (Answer response) = Some (verdict s.preserve_intermediates hop response)
verdict_on s hop other = None

-- a hop before the last: it was asked, and an alias to the next came back
pub record IsAliasHop (s : LookupContext) (hop : Hop) (x : Exchange) (next : Hop) : Type 0 where
  pub upstream : GoesUpstream s hop.query
  pub asked : x.query ≡ hop.query
  pub alias : verdict_on s hop (kind_of x.outcome) ≡ Some (LeadsTo next)

-- These exchanges lead by aliases from a hop to another; for each there is the cache that its hop read. The first target
-- of a service's SRV records counts as an alias where no CNAME counted
abbrev pub FollowsAliases : LookupContext → List CacheValue → Hop → List Exchange → Hop → Type 0
FollowsAliases s [] hop [] last = last ≡ hop
FollowsAliases s (cache ∷ caches) hop (x ∷ xs) last =
    (next : Hop) × IsAliasHop (record s { cache = cache }) hop x next × FollowsAliases s caches next xs last
FollowsAliases s _ hop _ last = ⊥

-- how a list of hops ends: at a special name, at a current entry, or with what came back
pub data ChainEnd : Type 0 where
  Special : LookupResult → ChainEnd
  Hit : Entry → ChainEnd
  Asked : OutcomeValue → ChainEnd

-- after so many hops this is the last: an alias ends the list only at the eighth question
abbrev pub IsChainEnd : LookupContext → ℕ → Hop → ChainEnd → Type 0
IsChainEnd s count hop (Special reply) = special_use_result hop.query s.now ≡ Some reply
IsChainEnd s count hop (Hit entry) =
    (special_use_result hop.query s.now ≡ None) × (current hop.query s.now s.cache.entries ≡ Some entry)
IsChainEnd s count hop (Asked outcome) =
    GoesUpstream s hop.query
    × ((next : Hop) → verdict_on s hop (kind_of outcome) ≡ Some (LeadsTo next) → count ≡ 7)

-- ---- what a hop comes to that was asked, and what is stored under its question
--
-- what came back                            the result                           stored under the question
-- an answer that is accepted                its records                          the answer, up to the limit of its CNAMEs
-- an alias at the eighth question           no records                           nothing
-- an answer without what was asked for      no records                           nothing
-- a negative answer                         the negative answer                  the negative answer
-- any other error                           the error                            nothing
--
-- An alias before the eighth question leads to the next hop.

-- no such records, as a response without what was asked for says (RFC 2308, section 2.2)
abbrev pub no_match : Query → MessageValue → NetError
no_match q response =
    Dns (NoRecordsFound (record {
      query = q;
      soa = first_soa response.authorities;
      ns = None;
      negative_ttl = negative_ttl_of response;
      response_code = response.metadata.response_code;
      authorities = None;
    }))

-- the result of a hit: what the entry gives at that moment
abbrev pub hit_result : Query → ℕ → OutcomeValue → LookupResult
hit_result q now (Ok m) = Ok (hit_lookup q m now)
hit_result q now (Err e) = Err e

-- the result of a last hop that was asked. An alias too many comes to no records
abbrev pub result_of_verdict : ConfigValue → Query → ℕ → MessageValue → Verdict → LookupResult
result_of_verdict config q now response (Accepted m) = Ok (found_lookup config q m now)
result_of_verdict config q now response (LeadsTo next) = Err (no_match q response)
result_of_verdict config q now response NoMatch = Err (no_match q response)

abbrev pub result_when_asked : LookupContext → Hop → ResponseKind → LookupResult
result_when_asked s hop (Answer response) =
    result_of_verdict s.cache.config hop.query s.now response (verdict s.preserve_intermediates hop response)
result_when_asked s hop (Negative none) = Err (Dns (NoRecordsFound none))
result_when_asked s hop (Failed error) = Err error

abbrev pub result_of : LookupContext → Hop → ChainEnd → LookupResult
result_of s hop (Special reply) = reply
result_of s hop (Hit entry) = hit_result hop.query s.now (aged_result s.now entry)
result_of s hop (Asked outcome) = result_when_asked s hop (kind_of outcome)

-- the exchange of the last hop, where it was asked
abbrev pub asks_of : Hop → ChainEnd → List Exchange
asks_of hop (Asked outcome) = record { query = hop.query; outcome = outcome } ∷ []
asks_of hop other = []

-- ---- how long an alias lives: no longer than the CNAMEs on its way (RFC 2181, section 8; RFC 1034, section 3.6.2)

-- the least of some moments, or the last moment where there are none
abbrev pub earliest : List ℕ → ℕ
earliest [] = last_moment
earliest (moment ∷ moments) = min moment (earliest moments)

-- until when a CNAME of this TTL lives that came at a moment: its TTL is clamped as that of a record
abbrev pub alias_deadline : ConfigValue → ℕ → ℕ → ℕ
alias_deadline config now ttl =
    saturating_sum now (clamp (reduced_bounds (positive_bounds (bounds_for config (type_code type.CNAME)))) ttl)

-- until when all CNAMEs live that counted in what came back to a question. Only an answer is walked
abbrev pub alias_limit : LookupContext → Query → ResponseKind → ℕ
alias_limit s q (Answer response) =
    earliest (map (alias_deadline s.cache.config s.now) (walk_of q response.answers).alias_ttls)
alias_limit s q other = last_moment

-- the limit of a last hop: of a hit the deadline of its entry; where it was asked, until when the CNAMEs live that
-- counted in what came back; a special name has none
abbrev pub end_limit : LookupContext → Hop → ChainEnd → ℕ
end_limit s hop (Special reply) = last_moment
end_limit s hop (Hit entry) = entry.valid_until
end_limit s hop (Asked outcome) = alias_limit s hop.query (kind_of outcome)

-- a question that was asked, and until when the CNAMEs live that counted in what came back to it (seconds)
pub record PassedValue : Type 0 where
  pub query : Query
  pub limit : ℕ

-- the question of a hop, passed by what came back to it, and that of an exchange
abbrev pub passed_by : LookupContext → Query → OutcomeValue → PassedValue
passed_by s q outcome = record { query = q; limit = alias_limit s q (kind_of outcome) }

abbrev pub passed_of : LookupContext → List Exchange → List PassedValue
passed_of s xs = map (λ x. passed_by s x.query x.outcome) xs

-- the limit of the first of some passed questions, where that of the hop after them is given: the lesser of its own and
-- that of the hop after it
abbrev pub limit_of : List PassedValue → ℕ → ℕ
limit_of [] limit = limit
limit_of (p ∷ ps) limit = min p.limit (limit_of ps limit)

-- an answer that may be used up to a limit at the most; an error stays
abbrev pub result_until : ℕ → LookupResult → LookupResult
result_until limit (Ok l) = Ok (record l { valid_until = min l.valid_until limit })
result_until limit (Err error) = Err error

-- the last hop was asked
abbrev pub is_asked : ChainEnd → Bool
is_asked (Asked outcome) = true
is_asked other = false

-- What a look-up comes to, by the questions that it passed: the result of its last hop. Where its first question was
-- asked, an answer may be used up to the limit of the first hop; a special name and a hit keep their own time.
abbrev pub reply_of : LookupContext → List PassedValue → Hop → ChainEnd → LookupResult
reply_of s passed hop last =
    if is_asked last || not (is_empty passed)
    then result_until (limit_of passed (end_limit s hop last)) (result_of s hop last)
    else result_of s hop last

-- ---- what is stored

-- what is stored, under which question, when, and the limit of its deadline: with the bounds of the cache, all
-- that its entry is made of
pub record Store : Type 0 where
  pub query : Query
  pub outcome : OutcomeValue
  pub now : ℕ
  pub limit : ℕ

-- the entry that a store makes, if it makes one
abbrev pub entry_of_store : ConfigValue → Store → Option Entry
entry_of_store config s = option_map (not_after s.limit) (entry_of config s.query s.outcome s.now)

abbrev pub store_of : Query → OutcomeValue → ℕ → ℕ → Store
store_of q outcome now limit = record { query = q; outcome = outcome; now = now; limit = limit }

-- what the last hop stores under its own question: an accepted response or a negative answer. Only an answer is
-- walked, so that no CNAME limits a negative answer there
abbrev pub stores_of_verdict : Query → ℕ → ℕ → Verdict → List Store
stores_of_verdict q now limit (Accepted m) = store_of q (Ok m) now limit ∷ []
stores_of_verdict q now limit (LeadsTo next) = []
stores_of_verdict q now limit NoMatch = []

abbrev pub stores_when_asked : LookupContext → Hop → ResponseKind → List Store
stores_when_asked s hop (Answer response) =
    stores_of_verdict hop.query s.now (alias_limit s hop.query (Answer response))
    (verdict s.preserve_intermediates hop response)
stores_when_asked s hop (Negative none) =
    store_of hop.query (Err (Dns (NoRecordsFound none))) s.now last_moment ∷ []
stores_when_asked s hop (Failed error) = []

abbrev pub last_stores : LookupContext → Hop → ChainEnd → List Store
last_stores s hop (Asked outcome) = stores_when_asked s hop (kind_of outcome)
last_stores s hop other = []

-- what is stored under an earlier question: a result as a fresh response with its sections, and an error as
-- it is
abbrev pub as_outcome : Query → LookupResult → OutcomeValue
as_outcome q (Ok lookup) =
    Ok (record (response_to q lookup.message.answers) {
      authorities = lookup.message.authorities;
      additionals = lookup.message.additionals;
    })
as_outcome q (Err error) = Err error

-- a result under an earlier question
abbrev pub earlier_store : LookupResult → ℕ → Query → ℕ → Store
earlier_store result now q limit = store_of q (as_outcome q result) now limit

-- a result under each passed question, with its limit, from the last to the first
abbrev pub earlier_stores : LookupResult → ℕ → ℕ → List PassedValue → List Store
earlier_stores result now limit [] = []
earlier_stores result now limit (p ∷ ps) =
    earlier_stores result now limit ps ++ earlier_store result now p.query (limit_of (p ∷ ps) limit) ∷ []

-- the last hop's own store, then those under the questions before it
abbrev pub stores_of : LookupContext → List PassedValue → Hop → ChainEnd → List Store
stores_of s passed hop last =
    last_stores s hop last ++ earlier_stores (result_of s hop last) s.now (end_limit s hop last) passed

-- the cache after a store. A store of an error other than a negative answer changes nothing
abbrev pub after_store : Store → CacheValue → CacheValue
after_store s cache = store_until cache s.query s.outcome s.now s.limit

-- the cache after these stores, in order
abbrev pub after_stores : List Store → CacheValue → CacheValue
after_stores [] cache = cache
after_stores (s ∷ ss) cache = after_stores ss (after_store s cache)

-- ---- the whole of a look-up
--
-- Each of its hops reads the cache that stands when the hop is taken. The cache of the context is the one that stands at
-- the end, in which the result is kept. A look-up that blocks reads one cache, as nothing but itself changes it.

-- The hops of a question, at most eight, with the exchanges that they make and, for each of these, the cache that its hop
-- read. A last hop that was not asked read the cache that stands at the end.
pub record HopList (s : LookupContext) (caches : List CacheValue) (question : Query) (asks : List Exchange)
    : Type 0 where
  pub before : List CacheValue
  pub passed : List Exchange
  pub last_hop : Hop
  pub last : ChainEnd
  pub last_cache : CacheValue
  pub leads : FollowsAliases s before (first_hop question) passed last_hop
  pub short : length passed ≤ 7
  pub ends : IsChainEnd (record s { cache = last_cache }) (length passed) last_hop last
  pub at_once : is_asked last ≡ false → last_cache ≡ s.cache
  pub asks_are : asks ≡ passed ++ asks_of last_hop last
  pub caches_are : caches ≡ before ++ (if is_asked last then last_cache ∷ [] else [])

-- the whole of it: what the look-up comes to, and every store
pub record IsWhole
    (s : LookupContext) (caches : List CacheValue) (question : Query) (asks : List Exchange) (result : LookupResult)
    (after : CacheValue)
    : Type 0 where
  pub hops : HopList s caches question asks
  pub result_is : result ≡ reply_of s (passed_of s hops.passed) hops.last_hop hops.last
  pub after_is : after ≡ after_stores (stores_of s (passed_of s hops.passed) hops.last_hop hops.last) s.cache

-- a result that is kept, and so takes memory after it came: an answer, or a negative answer. Any other error is the
-- reply as it is
abbrev pub is_kept : LookupResult → Bool
is_kept (Ok lookup) = true
is_kept (Err error) = is_no_records_found error

-- a beginning of some stores was made, and not all of them: after the last one no memory is taken
pub record IsBeginning (stores : List Store) (before after : CacheValue) : Type 0 where
  pub front : List Store
  pub back : List Store
  pub parts : front ++ back ≡ stores
  pub not_all : back ≡ [] → stores ≡ []
  pub after_is : after ≡ after_stores front before

-- memory ran out among the stores of a result that is kept: a beginning of them was made
pub record IsCutInStores
    (s : LookupContext) (caches : List CacheValue) (question : Query) (asks : List Exchange) (after : CacheValue)
    : Type 0 where
  pub hops : HopList s caches question asks
  pub kept : is_kept (result_of s hops.last_hop hops.last) ≡ true
  pub begun : IsBeginning (stores_of s (passed_of s hops.passed) hops.last_hop hops.last) s.cache after

-- memory ran out among the hops: first hops were asked, and nothing was stored. What came back to the last of them
-- holds memory, so that there may have been none to copy it or to make something of it
pub record IsCutInAsks
    (s : LookupContext) (caches : List CacheValue) (question : Query) (asks : List Exchange) (after : CacheValue)
    : Type 0 where
  pub before : List CacheValue
  pub passed : List Exchange
  pub last_hop : Hop
  pub leads : FollowsAliases s before (first_hop question) passed last_hop
  pub short : length passed ≤ 7
  pub asks_are : ((asks ≡ passed) × (caches ≡ before))
      ⊎ ((x : Exchange) × (cache : CacheValue) × GoesUpstream (record s { cache = cache }) last_hop.query
      × (x.query ≡ last_hop.query) × (holds_memory x.outcome ≡ true) × (asks ≡ passed ++ x ∷ [])
      × (caches ≡ before ++ cache ∷ []))
  pub after_is : after ≡ s.cache

-- what is left of a look-up where memory ran out: a beginning of its events
abbrev pub IsCutShort : LookupContext → List CacheValue → Query → List Exchange → CacheValue → Type 0
IsCutShort s caches question asks after =
    IsCutInStores s caches question asks after ⊎ IsCutInAsks s caches question asks after

-- the reply to a question, the exchanges that were made for it, each over its cache, and the cache after it
abbrev pub IsReplyOver : LookupContext → List CacheValue → Query → List Exchange → LookupResult → CacheValue → Type 0
IsReplyOver s caches question asks result after =
    IsWhole s caches question asks result after
    ⊎ ((result ≡ Err OutOfMemory) × IsCutShort s caches question asks after)

-- the cache of the context, for each of some exchanges
abbrev pub one_cache : LookupContext → List Exchange → List CacheValue
one_cache s xs = map (λ x. s.cache) xs

-- the same of a look-up that blocks
abbrev pub IsReply : LookupContext → Query → List Exchange → LookupResult → CacheValue → Type 0
IsReply s question asks result after = IsReplyOver s (one_cache s asks) question asks result after
