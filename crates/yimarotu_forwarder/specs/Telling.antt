-- What a transaction of the servers came to, and what a fetch makes of it.
use Rattle.std.specs.Prelude.{◌≡◌, ◌==◌, ◌+◌, ◌⊎◌, ◌&&◌, ℕ, Bool, true, false, not, min, nat_lt, List, Option, None, Some, MatchOption, slice_get, if◌then◌else◌}
use Rattle.std.specs.Option.{is_none, option_and_then, option_map_or}
use Rattle.hickory_proto_names.specs.Name.{NameValue}
use Rattle.hickory_proto_wire.specs.declared.wire_message.WireMessage.{WireMessage}
use Rattle.hickory_resolver_pool.specs.Over.{OverValue, message_of}
use Rattle.hickory_resolver_pool.specs.declared.over.PoolOutcome.{PoolOutcome}
use Rattle.hickory_resolver_pool.specs.declared.over.PoolOutcome.TheVariants as pool
use Rattle.client_requests.specs.declared.fetch_end.FetchEnd.{FetchEnd}
use Rattle.client_requests.specs.declared.fetch_end.FetchEnd.TheVariants.{Reply, Failure}
use Rattle.failure_replies.specs.declared.failure.FailureReason.{FailureReason}
use Rattle.failure_replies.specs.declared.failure.FailureReason.TheVariants as reason
use Rattle.kept_failures.specs.Failures.{FailuresValue, noted}
use Rattle.second_chance_cache.specs.SecondChance.{without}
use Rattle.whole_lookups.specs.Capped.{capped}
use Rattle.whole_lookups.specs.Denied.{without_denied}
use Rattle.whole_lookups.specs.Lookups.{heard}
use Rattle.whole_lookups.specs.Lookups as whole
use Rattle.whole_lookups.specs.Lookups.{LookupValue}
use Rattle.whole_lookups.specs.declared.heard.Heard.{Heard}
use Rattle.whole_lookups.specs.declared.heard.Heard.TheVariants as heard_as
use Rattle.whole_replies.specs.Kept.{KeptValue, kept_of, next_question}
use Rattle.yimarotu_forwarder.specs.Fetches.{Ends, FetchValue, FetchesValue, HoldsFetch, LeadsOn, asked_for, fetch_at, without_asker}
use Rattle.yimarotu_forwarder.specs.Forwarders.{ChainEndValue, ForwarderValue, ReplyingValue, TellingValue, is_since, second_of}
use Rattle.yimarotu_forwarder.specs.NextQuestions.{next_key}
use Rattle.yimarotu_forwarder.specs.Options.{OptionsValue, denied_for}
use Rattle.yimarotu_forwarder.specs.Replying.{end_of}
use Rattle.yimarotu_forwarder.specs.declared.telling.Told.{Told}
use Rattle.yimarotu_forwarder.specs.declared.telling.Told.TheVariants as told

-- ---- what it came to

-- why there is no reply
abbrev pub reason_of : PoolOutcome → FailureReason
reason_of pool.Response = reason.NetworkError
reason_of pool.Cut = reason.NetworkError
reason_of pool.Code = reason.NetworkError
reason_of pool.Unreachable = reason.NoReachableAuthority
reason_of pool.Timeout = reason.NoReachableAuthority
reason_of pool.Overloaded = reason.NotReady

abbrev pub response_in : PoolOutcome → Option WireMessage → Option WireMessage
response_in pool.Response message = message
response_in other message = None

-- the reply, where it is one
abbrev pub response_of : OverValue → Option WireMessage
response_of over = response_in over.outcome (message_of over)

-- ---- a fetch is over

-- That there was no place for it says nothing of the servers, and is not kept (RFC 9520, section 3.2).
abbrev pub is_kept_failure : FailureReason → Bool
is_kept_failure reason.NotReady = false
is_kept_failure _ = true

-- that no server could be reached
abbrev pub is_unreachable : FailureReason → Bool
is_unreachable reason.NoReachableAuthority = true
is_unreachable _ = false

-- Nor is that none could be reached, where a channel could not be opened here since the look-up began.
abbrev pub is_noted : FailureReason → ℕ → Option ℕ → Bool
is_noted why began stalled = is_kept_failure why && not (is_unreachable why && is_since began stalled)

-- a failure that is noted is kept, and a reply lets go of those before it
abbrev pub failures_after : List ℕ → FetchEnd → ℕ → Option ℕ → ℕ → FailuresValue FailureReason
    → FailuresValue FailureReason
failures_after key (Reply r) began stalled second c = record c { entries = without key c.entries }
failures_after key (Failure why) began stalled second c =
    if is_noted why began stalled then noted key why second c else c

-- Each question that was asked had one reply at the most; of a failure it is not counted.
abbrev pub replies_of : FetchEnd → ℕ → ℕ
replies_of (Reply r) questions = questions
replies_of (Failure why) questions = 0

abbrev pub replying_of : List ℕ → FetchEnd → FetchValue → ReplyingValue
replying_of key end f = record {
  key = key;
  end = end;
  replies = replies_of end f.lookup.count;
  generation = f.generation;
  waiting = f.waiting;
}

-- it came to this: those who wait are replied to from then on
pub record Finishes (key : List ℕ) (end : FetchEnd) (f : FetchValue) (before after : ForwarderValue) : Type 0 where
  pub ends : Ends key before.fetches after.fetches
  pub others_are : after ≡ record before { fetches = after.fetches; replying = Some (replying_of key end f) }

-- Of a look-up that began before local data changed, when other servers may have been asked, nothing is noted.
abbrev pub noted_of : List ℕ → FetchEnd → FetchValue → ForwarderValue → FailuresValue FailureReason
noted_of key end f s =
    if f.generation == s.generation then failures_after key end f.began s.stalled (second_of s) s.failures
    else s.failures

-- and that is noted
abbrev pub with_end : List ℕ → FetchEnd → FetchValue → ForwarderValue → ForwarderValue
with_end key end f s = record s { failures = noted_of key end f s }

abbrev pub EndsFetch : List ℕ → FetchEnd → FetchValue → ForwarderValue → ForwarderValue → Type 0
EndsFetch key end f before after = Finishes key end f (with_end key end f before) after

-- the earlier of that at which the pool told the first of its replies, where it did, and this one
abbrev pub earlier_second : Option ℕ → ℕ → ℕ
earlier_second heard second = option_map_or (λ first. min first second) heard second

-- It counts from the second at which the pool told the first of its replies, so that no record outlives what was told.
abbrev pub first_second : FetchValue → ForwarderValue → ℕ
first_second f s = earlier_second f.heard (second_of s)

-- A whole reply to a question for a name as it is told: without the addresses that are denied, and with no TTL above the
-- greatest.
unfoldable pub as_told : NameValue → OptionsValue → KeptValue → KeptValue
as_told name o kept = capped o.greatest_ttl (without_denied o.allowed (denied_for name o) kept)

abbrev pub whole_end : KeptValue → FetchValue → ForwarderValue → FetchEnd
whole_end kept f s =
    end_of f.lookup.asked (as_told f.lookup.asked.name s.options kept) (first_second f s)

-- ---- the end of a chain

-- what is kept of the last reply of a look-up, by itself
abbrev pub chain_end_with : Option (List ℕ) → FetchEnd → ℕ → Option ChainEndValue
chain_end_with (Some key) (Reply r) generation =
    Some (record { key = key; reply = r; generation = generation })
chain_end_with other end generation = None

abbrev pub chain_end_of : FetchValue → ForwarderValue → KeptValue → Option ChainEndValue
chain_end_of f s kept =
    chain_end_with (next_key f)
    (end_of f.lookup.next (as_told f.lookup.next.name s.options kept) (second_of s)) f.generation

-- It answers a question that another reply led to, and leads on to none.
abbrev pub ends_chain : FetchValue → WireMessage → Bool
ends_chain f m = nat_lt 1 f.lookup.count && is_none (next_question f.lookup.next m.message)

abbrev pub chain_end_in : FetchValue → ForwarderValue → WireMessage → Option ChainEndValue
chain_end_in f s m =
    if ends_chain f m then option_and_then (chain_end_of f s) (kept_of f.lookup.next f.lookup.dnssec m) else None

-- of the reply of a transaction, for the look-up for which an asker asks
abbrev pub chain_end_for : OverValue → ℕ → ForwarderValue → Option ChainEndValue
chain_end_for over asker s =
    option_and_then (λ m. option_and_then (λ key. option_and_then (λ f. chain_end_in f s m) (fetch_at key s.fetches))
    (asked_for asker s.fetches)) (response_of over)

-- ---- an asker is told

-- what a fetch hears: it goes on with a question, it is whole, or it fails
abbrev pub told_as : Heard → Told
told_as heard_as.Asks = told.Asks
told_as (heard_as.Whole kept) = told.Whole kept
told_as heard_as.Fails = told.Fails reason.Other

abbrev pub told_of : OverValue → FetchValue → Told
told_of over f =
    option_map_or (λ m. told_as (heard m f.lookup)) (response_of over) (told.Fails (reason_of over.outcome))

abbrev pub lookup_after : OverValue → FetchValue → LookupValue
lookup_after over f = option_map_or (λ m. whole.after m f.lookup) (response_of over) f.lookup

-- the second at which the pool told the first of its replies, once it hears this
abbrev pub heard_after : Told → ℕ → Option ℕ → Option ℕ
heard_after told.Asks second heard = Some (earlier_second heard second)
heard_after other second heard = heard

-- it was heard at a second
abbrev pub heard_so : OverValue → ℕ → FetchValue → FetchValue
heard_so over second f =
    record f { lookup = lookup_after over f; heard = heard_after (told_of over f) second f.heard }

-- So the fetches: one that goes on has a question to ask.
abbrev pub HearsIn : Told → List ℕ → FetchValue → FetchesValue → FetchesValue → Type 0
HearsIn told.Asks key f = LeadsOn key f
HearsIn other key f = HoldsFetch key f

-- So the forwarder: one that heard the end is over.
abbrev pub Hears : Told → List ℕ → FetchValue → ForwarderValue → ForwarderValue → Type 0
Hears told.Asks key f before after =
    LeadsOn key f before.fetches after.fetches × (after ≡ record before { fetches = after.fetches })
Hears (told.Whole kept) key f before after = EndsFetch key (whole_end kept f before) f before after
Hears (told.Fails why) key f before after = EndsFetch key (Failure why) f before after

-- what its transaction came to, for the fetch that it asks for
abbrev pub TellsFetch : OverValue → List ℕ → ForwarderValue → ForwarderValue → FetchValue → Type 0
TellsFetch over key before after f = Hears (told_of over f) key (heard_so over (second_of before) f) before after

abbrev pub forgets_asker : ℕ → ForwarderValue → ForwarderValue
forgets_asker asker s = record s { fetches = without_asker asker s.fetches }

abbrev pub TellsKey : OverValue → ℕ → ForwarderValue → ForwarderValue → List ℕ → Type 0
TellsKey over asker before after key =
    MatchOption (fetch_at key before.fetches) (after ≡ forgets_asker asker before)
    (TellsFetch over key (forgets_asker asker before) after)

-- an asker for whom nothing is looked up is passed over
abbrev pub TellsAsker : OverValue → ℕ → ForwarderValue → ForwarderValue → Type 0
TellsAsker over asker before after =
    MatchOption (asked_for asker before.fetches) (after ≡ before) (TellsKey over asker before after)

-- ---- one asker after another

abbrev pub first_telling : OverValue → TellingValue
first_telling over = record { over = over; told = 0 }

abbrev pub one_more : TellingValue → TellingValue
one_more t = record t { told = t.told + 1 }

-- one more is told; where the reply ends a chain, it is kept by itself, too
abbrev pub counts_asker : TellingValue → ℕ → ForwarderValue → ForwarderValue
counts_asker t asker s = record s {
  telling = Some (one_more t);
  chain_end = chain_end_for t.over asker s;
}

abbrev pub TellsNext : TellingValue → ForwarderValue → ForwarderValue → ℕ → Type 0
TellsNext t before after asker = TellsAsker t.over asker (counts_asker t asker before) after

-- where all were told, it is let go
abbrev pub Tells : ForwarderValue → ForwarderValue → TellingValue → Type 0
Tells before after t =
    MatchOption (slice_get t.over.askers t.told) (after ≡ record before { telling = None }) (TellsNext t before after)

-- ---- where memory runs out

-- No memory was left to store a whole reply, or to note a failure: the look-up fails, which is not noted.
abbrev pub EndsForMemory : List ℕ → FetchValue → ForwarderValue → ForwarderValue → Type 0
EndsForMemory key f before after = Finishes key (Failure reason.Other) f before after

-- A refused telling changes nothing, or the look-up that was told fails.
abbrev pub StopsNext : TellingValue → ForwarderValue → ForwarderValue → ℕ → Type 0
StopsNext t before after asker =
    MatchOption (asked_for asker before.fetches) ⊥ (λ key. MatchOption (fetch_at key before.fetches) ⊥
    (λ f. EndsForMemory key (heard_so t.over (second_of before) f)
    (forgets_asker asker (counts_asker t asker before)) after))

abbrev pub Stops : ForwarderValue → ForwarderValue → TellingValue → Type 0
Stops before after t = MatchOption (slice_get t.over.askers t.told) ⊥ (StopsNext t before after)

abbrev pub StopsTelling : ForwarderValue → ForwarderValue → TellingValue → Type 0
StopsTelling before after t = (after ≡ before) ⊎ Stops before after t
