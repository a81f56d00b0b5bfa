-- What look-ups come to, and what is kept of it.
use Rattle.std.specs.Prelude.{◌≡◌, ◌⊎◌, ℕ, ◌+◌, ◌<◌, ◌≤◌, Bool, true, List, [], ◌∷◌, ◌++◌, length, map, slice_get, Some}
use Rattle.std.specs.List.{AllByRecursion}
use Rattle.hickory_proto_core.specs.Records.{RecordValue}
use Rattle.hickory_proto_core.specs.declared.query.Query.{Query}
use Rattle.hickory_proto_wire.specs.declared.wire_message.WireMessage.{WireMessage}
use Rattle.hickory_resolver_pool.specs.Pool.{PoolState}
use Rattle.hickory_resolver_tries.specs.declared.pool_question.PoolQuestion.{PoolQuestion}
use Rattle.client_requests.specs.declared.fetch_end.FetchEnd.TheVariants.{Reply}
use Rattle.local_answers.specs.declared.local_data.Decision.TheVariants.{Answer}
use Rattle.second_chance_cache.specs.SecondChance.{Entry, told}
use Rattle.second_chance_cache.specs.declared.bounds.CacheBounds.{CacheBounds}
use Rattle.stored_replies.specs.Key.{is_same_question}
use Rattle.stored_replies.specs.Stale.{stale_of}
use Rattle.stored_replies.specs.Stored.{StoredValue, elapsed, stored_at}
use Rattle.stored_replies.specs.Told.{own_question}
use Rattle.whole_lookups.specs.Laws.{after_all, whole_of}
use Rattle.whole_lookups.specs.Lookups.{LookupValue, after, begun, whole_with}
use Rattle.whole_lookups.specs.declared.choices.TheConstants.{MOST_QUESTIONS}
use Rattle.whole_replies.specs.Kept.{KeptValue, aged}
use Rattle.yimarotu_forwarder.specs.Cached.{CachedValue}
use Rattle.yimarotu_forwarder.specs.Fetches.{FetchValue, asked_for, fetch_at}
use Rattle.yimarotu_forwarder.specs.Forwarders.{ChainEndValue, ForwarderValue, ReplyingValue, TellingValue, new_forwarder, second_of}
use Rattle.yimarotu_forwarder.specs.Local.{IsDecided, LocalValue}
use Rattle.yimarotu_forwarder.specs.NextQuestions.{asked_octets}
use Rattle.yimarotu_forwarder.specs.Options.{OptionsValue, stale_seconds}
use Rattle.yimarotu_forwarder.specs.Prefetching.{key_dnssec}
use Rattle.yimarotu_forwarder.specs.Stale.{stale_in}
use Rattle.yimarotu_forwarder.specs.Telling.{as_told, response_of}
use Rattle.yimarotu_forwarder.specs.declared.choices.TheConstants.{LONGEST_STALE}
use Rattle.yimarotu_forwarder_theorems.specs.Runs.{Happening, Runs, happened}

-- ---- replies that were told

-- a reply, the question of the transaction that came to it, and the second at which it was told
pub record ToldReply : Type 0 where
  pub message : WireMessage
  pub question : PoolQuestion
  pub second : ℕ

-- a transaction is told that came to this reply
abbrev pub IsTelling : ForwarderValue → ToldReply → Type 0
IsTelling s r =
    (t : TellingValue) × (s.telling ≡ Some t) × (response_of t.over ≡ Some r.message)
    × (r.question ≡ t.over.question) × (r.second ≡ second_of s)

abbrev pub WasTold : List Happening → ToldReply → Type 0
WasTold [] r = ⊥
WasTold (happened event before after ∷ past) r = IsTelling before r ⊎ WasTold past r

-- the look-up that is told so has to ask this question, with DO or without
pub record IsHeard (s : ForwarderValue) (r : ToldReply) (q : Query) (dnssec : Bool) : Type 0 where
  pub telling : IsTelling s r
  pub asker : ℕ
  pub has_turn : slice_get telling.0.over.askers telling.0.told ≡ Some asker
  pub key : List ℕ
  pub asks_for : asked_for asker s.fetches ≡ Some key
  pub fetch : FetchValue
  pub goes_on : fetch_at key s.fetches ≡ Some fetch
  pub question : fetch.lookup.next ≡ q
  pub with_do : fetch.lookup.dnssec ≡ dnssec

abbrev pub WasHeard : List Happening → ToldReply → Query → Bool → Type 0
WasHeard [] r q dnssec = ⊥
WasHeard (happened event before after ∷ past) r q dnssec = IsHeard before r q dnssec ⊎ WasHeard past r q dnssec

-- Each was told to a look-up that had to ask what this one has to ask once it heard those before.
abbrev pub AreHeard : List Happening → LookupValue → List ToldReply → Type 0
AreHeard past l [] = Unit {0}
AreHeard past l (r ∷ rs) = WasHeard past r l.next l.dnssec × AreHeard past (after r.message l) rs

abbrev pub messages : List ToldReply → List WireMessage
messages replies = map (λ r. r.message) replies

-- none of them was told before this second
abbrev pub AreSince : ℕ → List ToldReply → Type 0
AreSince second replies = AllByRecursion (λ (r : ToldReply). second ≤ r.second) replies

-- ---- what is known here

-- it is what local data say of a question at this second
abbrev pub IsKnown : ForwarderValue → Query → KeptValue → ℕ → Type 0
IsKnown s q here second = (second ≡ second_of s) × IsDecided s.local q second (Answer here)

abbrev pub WasKnown : List Happening → Query → KeptValue → ℕ → Type 0
WasKnown [] q here second = ⊥
WasKnown (happened event before after ∷ past) q here second =
    IsKnown before q here second ⊎ WasKnown past q here second

-- ---- its options

abbrev pub HasOptions : ForwarderValue → OptionsValue → ℕ → Type 0
HasOptions s options second = (second ≡ second_of s) × (options ≡ s.options)

-- these were its options at this second
abbrev pub HadOptions : List Happening → OptionsValue → ℕ → Type 0
HadOptions [] options second = ⊥
HadOptions (happened event before after ∷ past) options second =
    HasOptions before options second ⊎ HadOptions past options second

-- ---- what they make

-- how far a look-up of this question is, with DO or without: it heard these replies, each to what it had to ask then,
-- and asked few questions
pub record HeardReplies (past : List Happening) (dnssec : Bool) (l : LookupValue) : Type 0 where
  pub question : Query
  pub replies : List ToldReply
  pub told : AllByRecursion (WasTold past) replies
  pub in_turn : AreHeard past (begun question dnssec) replies
  pub heard : l ≡ after_all (begun question dnssec) (messages replies)
  pub few : l.count ≤ MOST_QUESTIONS

-- Up to this second it is no older than the least of its TTLs.
abbrev pub LastsTo : StoredValue → ℕ → Type 0
LastsTo s deadline = deadline ≤ s.moment + s.kept.seconds

-- how a whole reply was stored: by which options, and the second from which on it ages
pub record Storing : Type 0 where
  pub options : OptionsValue
  pub second : ℕ

-- without the addresses that they deny for the name that was asked, and with no TTL above their greatest
abbrev pub stored_so : Query → KeptValue → Storing → StoredValue
stored_so q kept how = stored_at q (as_told q.name how.options kept) how.second

-- These replies to a question and to what it led to, with DO or without, make the whole reply that was stored. Or they
-- lead to a name of which is known here what is put behind them; or to a question for which such a reply was kept, with
-- DO as well or without as well, which is put behind them as it had aged at a second at which it could be told. The
-- options are those of the second at which the last of this came. The whole ages from a second on at which none of them
-- was told yet: so no record outlives what was received.
pub data IsMadeOf (past : List Happening) (dnssec : Bool) : List ToldReply → StoredValue → Type 0 where
  by_servers : (q : Query) (replies : List ToldReply) (last : ToldReply) (kept : KeptValue) (how : Storing)
      (s : StoredValue) → AreHeard past (begun q dnssec) (replies ++ last ∷ [])
      → whole_of (begun q dnssec) (messages (replies ++ last ∷ [])) ≡ Some kept
      → HadOptions past how.options last.second → AreSince how.second (replies ++ last ∷ [])
      → s ≡ stored_so q kept how → IsMadeOf past dnssec (replies ++ last ∷ []) s
  by_local_data : (q : Query) (replies : List ToldReply) (here : KeptValue) (second : ℕ) (how : Storing)
      (s : StoredValue) → AreHeard past (begun q dnssec) replies
      → WasKnown past (after_all (begun q dnssec) (messages replies)).next here second
      → HadOptions past how.options second → how.second ≤ second → AreSince how.second replies
      → s ≡ stored_so q (whole_with here (after_all (begun q dnssec) (messages replies))) how
      → IsMadeOf past dnssec replies s
  by_kept_end : (q : Query) (first last : List ToldReply) (end : StoredValue) (second : ℕ) (how : Storing)
      (s : StoredValue) → AreHeard past (begun q dnssec) first
      → IsMadeOf past dnssec last end → LastsTo end second
      → HadOptions past how.options second → how.second ≤ second → AreSince how.second first
      → is_same_question (asked_octets (after_all (begun q dnssec) (messages first)).next) (own_question end) ≡ true
      → s ≡ stored_so q
      (whole_with (aged (elapsed end second) end.kept) (after_all (begun q dnssec) (messages first))) how
      → IsMadeOf past dnssec (first ++ last) s

-- what few replies that were told make, with DO or without
pub record IsAnswer (past : List Happening) (dnssec : Bool) (s : StoredValue) : Type 0 where
  pub replies : List ToldReply
  pub told : AllByRecursion (WasTold past) replies
  pub few : length replies ≤ MOST_QUESTIONS
  pub made : IsMadeOf past dnssec replies s

-- It is an answer, with DO where its key says so, and else without; as it ages it is told up to no later second than it
-- lasts; and it is kept for a day after that at the most.
pub record IsKeptAnswer (past : List Happening) (key : List ℕ) (cached : CachedValue) (deadline : ℕ) : Type 0 where
  pub answer : IsAnswer past (key_dnssec key) cached.reply
  pub lasts : LastsTo cached.reply cached.told_until
  pub a_day : deadline ≤ cached.told_until + LONGEST_STALE

-- Look-ups that go on, what those who waited are told of one that is over, the end of a chain that is to be kept, and
-- what is kept: of each its key says whether it is with DO
pub record AreOfReplies (past : List Happening) (s : ForwarderValue) : Type 0 where
  pub going_on : (key : List ℕ) (f : FetchValue) → fetch_at key s.fetches ≡ Some f
      → HeardReplies past (key_dnssec key) f.lookup
  pub told : (r : ReplyingValue) (end : StoredValue) → s.replying ≡ Some r → r.end ≡ Reply end
      → IsAnswer past (key_dnssec r.key) end
  pub chain_end : (e : ChainEndValue) → s.chain_end ≡ Some e → IsAnswer past (key_dnssec e.key) e.reply
  pub kept : AllByRecursion (λ (e : Entry CachedValue). IsKeptAnswer past e.key e.value e.deadline) s.cache.entries

-- The answer of a look-up is what at most eight replies that were told make, one after another, and so is all that is
-- kept; what is told of it as it ages is told for no longer than the least of its TTLs.
abbrev pub AnswersAreOfReplies : Type 0
AnswersAreOfReplies =
    (options : OptionsValue) (local : LocalValue) (cache failures : CacheBounds) (pool : PoolState)
    → (past : List Happening) (s : ForwarderValue) → Runs (new_forwarder options local cache failures pool) past s
    → AreOfReplies past s

-- ---- what is told past its end

abbrev pub HasShortTtl : RecordValue → Type 0
HasShortTtl r = r.ttl ≡ 30

-- It is kept under this key, and was an answer up to a second that is over, by no more seconds than the options say and
-- a day at the most. What is told in place of it has TTLs of 30 seconds (RFC 8767, section 4).
pub record IsStaleAnswer (past : List Happening) (dnssec : Bool) (key : List ℕ) (stored : StoredValue)
    (s : ForwarderValue) : Type 0 where
  pub cached : CachedValue
  pub found : told key (second_of s) s.cache.entries ≡ Some cached
  pub reply_is : cached.reply ≡ stored
  pub answer : IsAnswer past dnssec stored
  pub lasts : LastsTo stored cached.told_until
  pub over : cached.told_until < second_of s
  pub late : second_of s ≤ cached.told_until + stale_seconds s.options
  pub a_day : stale_seconds s.options ≤ 86400
  pub answers : AllByRecursion HasShortTtl (stale_of stored).kept.answers
  pub authorities : AllByRecursion HasShortTtl (stale_of stored).kept.authorities

-- What is told where a look-up failed, if not that.
abbrev pub StaleAnswersAreOfReplies : Type 0
StaleAnswersAreOfReplies =
    (options : OptionsValue) (local : LocalValue) (cache failures : CacheBounds) (pool : PoolState)
    → (past : List Happening) (s : ForwarderValue) → Runs (new_forwarder options local cache failures pool) past s
    → (key : List ℕ) (stored : StoredValue) → stale_in s.cache key s.options (second_of s) ≡ Some stored
    → IsStaleAnswer past (key_dnssec key) key stored s
