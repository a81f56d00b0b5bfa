-- The steps of a forwarder: who waits is replied to, questions are asked, askers are told, what is kept is looked up
-- anew, those are told who wait for a look-up that is late, and else what the pool does next.
use Rattle.std.specs.Prelude.{◌≡◌, ◌==◌, ◌+◌, ◌⊎◌, ℕ, List, Option, None, Some, MatchOption, drop, min, nat_lt, slice_get, if◌then◌else◌}
use Rattle.hickory_resolver_pool.specs.Pool.{PoolState}
use Rattle.hickory_resolver_tries.specs.declared.pool_question.PoolQuestion.{PoolQuestion}
use Rattle.hickory_resolver_pool.specs.Pool as pool
use Rattle.hickory_resolver_pool.specs.declared.pool.Action.{Action}
use Rattle.hickory_resolver_pool.specs.declared.pool.Action.TheVariants as does
use Rattle.hickory_resolver_pool.specs.declared.pool.Asked as pool_asked
use Rattle.hickory_resolver_pool.specs.declared.pool.Asked.TheVariants as asked
use Rattle.client_limits.specs.Counts.{removed}
use Rattle.client_requests.specs.Requests.{RequestValue}
use Rattle.client_requests.specs.declared.fetch_end.FetchEnd.{FetchEnd}
use Rattle.client_requests.specs.declared.fetch_end.FetchEnd.TheVariants.{Reply, Failure}
use Rattle.failure_replies.specs.declared.failure.FailureReason.TheVariants as reason
use Rattle.yimarotu_forwarder.specs.Local.{IsDecided}
use Rattle.local_answers.specs.declared.local_data.Decision.{Decision}
use Rattle.local_answers.specs.declared.local_data.Decision.TheVariants as decision
use Rattle.second_chance_cache.specs.SecondChance.{CacheValue, stored, without}
use Rattle.stored_replies.specs.Stored.{StoredValue, saturated, until, weight_of}
use Rattle.whole_lookups.specs.Lookups.{whole_with}
use Rattle.whole_replies.specs.Kept.{KeptValue}
use Rattle.yimarotu_forwarder.specs.Cached.{CachedValue, fresh_until}
use Rattle.yimarotu_forwarder.specs.Fetches.{FetchValue, fetch_at, first_asked, with_asker}
use Rattle.yimarotu_forwarder.specs.Forwarders.{ChainEndValue, ForwarderValue, ReplyingValue, TellingValue, second_of}
use Rattle.yimarotu_forwarder.specs.Late.{TellsLate, first_due}
use Rattle.yimarotu_forwarder.specs.LookingUp.{after_ask, pool_question, pool_says}
use Rattle.yimarotu_forwarder.specs.NextQuestions.{ended_by, kept_end, next_key, with_asked_where}
use Rattle.yimarotu_forwarder.specs.Prefetching.{Prefetches, without_prefetch}
use Rattle.yimarotu_forwarder.specs.Stale.{kept_until, told_end}
use Rattle.yimarotu_forwarder.specs.Telling.{EndsFetch, EndsForMemory, Finishes, StopsTelling, Tells, first_telling, whole_end}
use Rattle.yimarotu_forwarder.specs.declared.steps.ForwarderAction.{ForwarderAction}
use Rattle.yimarotu_forwarder.specs.declared.steps.ForwarderAction.TheVariants as act

-- ---- who waits is replied to, one after another

abbrev pub RepliesTo : ReplyingValue → ForwarderValue → Option ForwarderAction → ForwarderValue → RequestValue → Type 0
RepliesTo r before action after w =
    (action ≡ Some (act.Reply w.client.number))
    × (after ≡ record before {
      counts = removed w.client.address before.counts;
      replying = Some (record r { waiting = drop 1 r.waiting });
      reply = told_end w r.key r.end before;
    })

-- The last second at which it is told out of the cache, as it has aged.
abbrev pub cached_until : StoredValue → ForwarderValue → ℕ
cached_until s f = min (until s) (saturated (second_of f + f.options.greatest_ttl))

abbrev pub as_cached : StoredValue → ℕ → ForwarderValue → CachedValue
as_cached s replies f = record {
  reply = s;
  fresh_until = fresh_until (second_of f) (cached_until s f);
  told_until = cached_until s f;
  replies = replies;
}

-- So what is kept is once a reply is stored that so many replies of servers made. One that is told for no time is not
-- kept, and what was kept before it goes.
abbrev pub cache_with : List ℕ → StoredValue → ℕ → ForwarderValue → CacheValue CachedValue
cache_with key s replies f =
    if nat_lt (second_of f) (cached_until s f)
    then stored key (as_cached s replies f) (weight_of s) (kept_until f.options (cached_until s f)) (second_of f) f.cache
    else record f.cache { entries = without key f.cache.entries }

abbrev pub with_stored : List ℕ → StoredValue → ℕ → ForwarderValue → ForwarderValue
with_stored key s replies f = record f { cache = cache_with key s replies f }

abbrev pub keeps_end : List ℕ → FetchEnd → ℕ → ForwarderValue → ForwarderValue
keeps_end key (Reply s) replies f = with_stored key s replies f
keeps_end key (Failure why) replies f = f

-- A reply is kept, unless local data changed meanwhile.
abbrev pub keeps : ReplyingValue → ForwarderValue → ForwarderValue
keeps r f = if r.generation == f.generation then keeps_end r.key r.end r.replies f else f

-- where all were replied to, it is let go
abbrev pub lets_go : ReplyingValue → ForwarderValue → ForwarderValue
lets_go r f = keeps r (record f { replying = None })

abbrev pub RepliesNext : ForwarderValue → Option ForwarderAction → ForwarderValue → ReplyingValue → Type 0
RepliesNext before action after r =
    MatchOption (slice_get r.waiting 0) ((action ≡ Some act.Continue) × (after ≡ lets_go r before))
    (RepliesTo r before action after)

-- ---- the end of a chain is kept

-- a failure of its question is let go
abbrev pub without_failure : List ℕ → ForwarderValue → ForwarderValue
without_failure key f = record f { failures = record f.failures { entries = without key f.failures.entries } }

abbrev pub keeps_chain_end : ChainEndValue → ForwarderValue → ForwarderValue
keeps_chain_end e f =
    if e.generation == f.generation then without_failure e.key (with_stored e.key e.reply 1 f) else f

abbrev pub without_chain_end : ForwarderValue → ForwarderValue
without_chain_end f = record f { chain_end = None }

-- ---- a fetch asks the question that its last reply led to

-- As the pool said. That it has no place or no servers says nothing of servers, and is not noted.
abbrev pub AsksBy : pool_asked.Asked → List ℕ → FetchValue → ForwarderValue → ForwarderValue → Type 0
AsksBy (asked.Asker a) key f before after =
    after ≡ record before { fetches = with_asker a.number key before.fetches }
AsksBy asked.Overloaded key f before after = Finishes key (Failure reason.NotReady) f before after
AsksBy asked.NoServers key f before after = Finishes key (Failure reason.NoReachableAuthority) f before after

abbrev pub asks_with : FetchValue → ForwarderValue → PoolQuestion
asks_with f s = pool_question f.lookup.next f.lookup.dnssec f.checking_disabled s

abbrev pub AsksPool : ℕ → List ℕ → FetchValue → ForwarderValue → ForwarderValue → Type 0
AsksPool group key f before after =
    AsksBy (pool_says group (asks_with f before) before) key f (after_ask group (asks_with f before) before) after

-- that, which so many replies made, is told behind what came
abbrev pub EndsWith : List ℕ → KeptValue → ℕ → FetchValue → ForwarderValue → ForwarderValue → Type 0
EndsWith key kept replies f before after =
    EndsFetch key (whole_end (whole_with kept f.lookup) f before) (ended_by replies f) before after

-- what is known here of the name, and else what is kept of the question, which counts as asked for again; and else
-- servers are asked
abbrev pub AsksOr : Decision → List ℕ → FetchValue → ForwarderValue → ForwarderValue → Type 0
AsksOr (decision.Answer kept) key f before after = EndsWith key kept 0 f before after
AsksOr (decision.Ask group) key f before after =
    MatchOption (kept_end f before) (AsksPool group key f before after)
    (λ end. EndsWith key end.0 end.1 f (with_asked_where (next_key f) before) after)

-- what is decided of the question that the fetch of a key has to ask
abbrev pub IsDecidedAs : ForwarderValue → Option Decision → FetchValue → Type 0
IsDecidedAs s None f = ⊥
IsDecidedAs s (Some found) f = IsDecided s.local f.lookup.next (second_of s) found

abbrev pub IsDecidedNext : ForwarderValue → List ℕ → Option Decision → Type 0
IsDecidedNext s key found = MatchOption (fetch_at key s.fetches) (found ≡ None) (IsDecidedAs s found)

pub record AsksNext (key : List ℕ) (before after : ForwarderValue) (f : FetchValue) : Type 0 where
  pub found : Decision
  pub decided : IsDecided before.local f.lookup.next (second_of before) found
  pub asks : AsksOr found key f before after

abbrev pub has_turn : ForwarderValue → ForwarderValue
has_turn s = record s { fetches = first_asked s.fetches }

-- one that is over is passed over
abbrev pub AsksFor : ForwarderValue → ForwarderValue → List ℕ → Type 0
AsksFor before after key =
    MatchOption (fetch_at key before.fetches) (after ≡ has_turn before) (AsksNext key (has_turn before) after)

-- ---- the pool's step

-- what the program has to do for it
abbrev pub action_of : Option Action → Option ForwarderAction
action_of None = None
action_of (Some (does.Open opening)) = Some (act.Open opening)
action_of (Some (does.Send sent)) = Some (act.Send sent)
action_of (Some (does.Close channel)) = Some (act.Close channel)
action_of (Some (does.Over over)) = Some act.Continue
action_of (Some does.Continue) = Some act.Continue

abbrev pub telling_of : Option Action → Option TellingValue
telling_of (Some (does.Over over)) = Some (first_telling over)
telling_of other = None

pub record StepsPool (before : ForwarderValue) (action : Option ForwarderAction) (after : ForwarderValue) : Type 0 where
  pub did : Option Action
  pub steps : pool.Steps before.pool did after.pool
  pub action_is : action ≡ action_of did
  pub others_are : after ≡ record before { pool = after.pool; telling = telling_of did }

-- ---- a step

abbrev pub TellsLateFirst : ForwarderValue → Option ForwarderAction → ForwarderValue → Type 0
TellsLateFirst before action after =
    MatchOption (first_due before) (StepsPool before action after)
    (λ key. (action ≡ Some act.Continue) × TellsLate before after key)

abbrev pub PrefetchesFirst : ForwarderValue → Option ForwarderAction → ForwarderValue → Type 0
PrefetchesFirst before action after =
    MatchOption before.prefetch (TellsLateFirst before action after)
    (λ key. (action ≡ Some act.Continue) × Prefetches before after key)

abbrev pub TellsFirst : ForwarderValue → Option ForwarderAction → ForwarderValue → Type 0
TellsFirst before action after =
    MatchOption before.telling (PrefetchesFirst before action after)
    (λ t. (action ≡ Some act.Continue) × Tells before after t)

abbrev pub AsksFirst : ForwarderValue → Option ForwarderAction → ForwarderValue → Type 0
AsksFirst before action after =
    MatchOption (slice_get before.fetches.to_ask 0) (TellsFirst before action after)
    (λ key. (action ≡ Some act.Continue) × AsksFor before after key)

abbrev pub RepliesFirst : ForwarderValue → Option ForwarderAction → ForwarderValue → Type 0
RepliesFirst before action after =
    MatchOption before.replying (AsksFirst before action after) (RepliesNext before action after)

-- A step: what the program has to do for it, nothing where nothing was left to be done, and the forwarder after it.
abbrev pub ForwarderSteps : ForwarderValue → Option ForwarderAction → ForwarderValue → Type 0
ForwarderSteps before action after =
    MatchOption before.chain_end (RepliesFirst before action after)
    (λ e. (action ≡ Some act.Continue) × (after ≡ keeps_chain_end e (without_chain_end before)))

-- ---- where memory runs out

-- the fetch of a key that was to ask a question fails
abbrev pub StopsFetch : List ℕ → ForwarderValue → ForwarderValue → Type 0
StopsFetch key before after =
    MatchOption (fetch_at key before.fetches) ⊥ (λ f. EndsForMemory key f (has_turn before) after)

abbrev pub StopsAsking : ForwarderValue → ForwarderValue → List ℕ → Type 0
StopsAsking before after key = (after ≡ before) ⊎ StopsFetch key before after

-- What is noted to be looked up anew is noted no more.
abbrev pub StopsPrefetchingFirst : ForwarderValue → ForwarderValue → Type 0
StopsPrefetchingFirst before after =
    MatchOption before.prefetch (after ≡ before) (λ key. after ≡ without_prefetch before)

-- A step that is refused for memory changes nothing, or a look-up that was at its end fails.
abbrev pub StopsTellingFirst : ForwarderValue → ForwarderValue → Type 0
StopsTellingFirst before after =
    MatchOption before.telling (StopsPrefetchingFirst before after) (StopsTelling before after)

abbrev pub StopsAskingFirst : ForwarderValue → ForwarderValue → Type 0
StopsAskingFirst before after =
    MatchOption (slice_get before.fetches.to_ask 0) (StopsTellingFirst before after) (StopsAsking before after)

-- Where all were told what a look-up came to, it is let go without being kept. While somebody is to be told, no step is
-- refused.
abbrev pub IsLetGo : ForwarderValue → ForwarderValue → ReplyingValue → Type 0
IsLetGo before after r = (slice_get r.waiting 0 ≡ None) × (after ≡ record before { replying = None })

abbrev pub StopsReplyingFirst : ForwarderValue → ForwarderValue → Type 0
StopsReplyingFirst before after = MatchOption before.replying (StopsAskingFirst before after) (IsLetGo before after)

-- The end of a chain is let go without being kept.
abbrev pub StopsStep : ForwarderValue → ForwarderValue → Type 0
StopsStep before after =
    MatchOption before.chain_end (StopsReplyingFirst before after) (λ e. after ≡ without_chain_end before)
