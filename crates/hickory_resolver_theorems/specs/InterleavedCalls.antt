-- Many calls over one resolver, in any order. Each is started, waits for what comes back to the question of its
-- sub-look-up, and goes on with it; between two steps of one, others start, go on and end, the cache is cleared and the
-- table of hosts is replaced. A call that blocks is one with no other event between its own. To the client, calls in
-- flight are look-ups in flight: a call that is done is made of sub-look-ups that each keep their promises. Of the
-- settings all but the table of hosts stays.
use Rattle.std.specs.Prelude.{◌≡◌, ◌⊎◌, ℕ, Bool, List, [], ◌∷◌, ◌++◌, Result, Some}
use Rattle.std.specs.List.{AllByRecursion, Contains}
use Rattle.hickory_proto_core.specs.Name.{NameValue}
use Rattle.hickory_proto_core.specs.Handles.{OutcomeValue}
use Rattle.hickory_proto_core.specs.names.name_error.NameError.{NameError}
use Rattle.hickory_proto_core.specs.declared.query.Query.{Query}
use Rattle.hickory_proto_core.specs.declared.recorded.Exchange.{Exchange}
use Rattle.hickory_proto_core.specs.codes.record_type.RecordType.{RecordType}
use Rattle.hickory_resolver_model.specs.Attempts.{attempts}
use Rattle.hickory_resolver_model.specs.Cache.{CacheValue}
use Rattle.hickory_resolver_model.specs.Lookup.{LookupResult, question_of}
use Rattle.hickory_resolver_model.specs.Hosts.{Host, NotInHosts}
use Rattle.hickory_resolver_model.specs.Calls.{CallContext, Source, Hosts, Client, SubLookup, SubLookupRelation, IsAnsweredByHosts, next_type, asks_of_sub_lookups}
use Rattle.hickory_resolver_model.specs.Resuming.{ProgressValue, Waits, IsDone}
use Rattle.hickory_resolver_model.specs.Run.{Settings, Call, AtOnce, Attempt, after_clear}
use Rattle.hickory_resolver_theorems.specs.CallFacts.{IsCallBy}
use Rattle.hickory_resolver_theorems.specs.Covered.{Dated, dated_exchanges}
use Rattle.hickory_resolver_theorems.specs.Interleaved.{DoneValue, WorldValue, world_of, EventValue, Happens, Happen, ended_by, received_by, ended_in, received_in, IsPromisedEnd}
use Rattle.hickory_resolver_theorems.specs.ResumingCalls.{WaitingCallValue, CallProgressValue, StartsCall, RunsOutAtStart, ResumesCall}

-- ---- what there is

-- a call in flight: what was exchanged for it so far, and with what it waits
pub record PendingCallValue : Type 0 where
  pub call : Call
  pub asks : List Exchange
  pub waiting : WaitingCallValue

-- a call that is done, with the moment of its start (seconds)
pub record DoneCallValue : Type 0 where
  pub call : Call
  pub now : ℕ
  pub asks : List Exchange
  pub result : LookupResult

-- the cache, the table of hosts, and the calls in flight
pub record CallWorldValue : Type 0 where
  pub cache : CacheValue
  pub hosts : List Host
  pub calls : List PendingCallValue

-- a resolver over which no call is in flight
abbrev pub call_world_of : CacheValue → List Host → CallWorldValue
call_world_of cache hosts = record { cache = cache; hosts = hosts; calls = [] }

-- where a call stands that was started at a moment, over this table of hosts
abbrev pub call_context_over : Settings → ℕ → List Host → CallContext
call_context_over s now hosts =
    record { now = now; preserve_intermediates = s.preserve_intermediates; hosts = hosts }

-- ---- what happens

-- A call is started at a moment; what came back is fed to one that waits; both tell how far it came. One that waits is
-- dropped. The cache is cleared of everything, or of the attempts at a name. The table of hosts is replaced.
pub data CallEventValue : Type 0 where
  CallStarted : Call → ℕ → CallProgressValue → CallEventValue
  CallFed : PendingCallValue → OutcomeValue → CallProgressValue → CallEventValue
  CallDropped : PendingCallValue → CallEventValue
  AllCleared : CallEventValue
  NameCleared : RecordType → Result NameValue NameError → CallEventValue
  HostsReplaced : List Host → CallEventValue

-- the exchange that is made by what is fed to a call
abbrev pub exchange_with : PendingCallValue → OutcomeValue → Exchange
exchange_with c outcome = record { query = c.waiting.lookup.hop.query; outcome = outcome }

-- the call after a step, where it waits
abbrev pub call_pending : Call → List Exchange → CallProgressValue → List PendingCallValue
call_pending call asks (Waits w) = record { call = call; asks = asks; waiting = w } ∷ []
call_pending call asks (IsDone result) = []

-- and where it is done
abbrev pub call_done : Call → ℕ → List Exchange → CallProgressValue → List DoneCallValue
call_done call now asks (Waits w) = []
call_done call now asks (IsDone result) = record { call = call; now = now; asks = asks; result = result } ∷ []

-- the calls in flight after one between these was fed: where its sub-look-up waits on, it stays at its place; else it
-- stands at the end, if it still waits. The order says nothing more
abbrev pub placed : ProgressValue → List PendingCallValue → List PendingCallValue → List PendingCallValue
    → List PendingCallValue
placed (Waits w) front new back = front ++ new ++ back
placed (IsDone result) front new back = (front ++ back) ++ new

-- An event, from one world to the next. Each step of a call is a step of the definition over the cache and the table of
-- hosts that stand; or memory runs out at the start.
abbrev pub CallHappens : Settings → CallWorldValue → CallEventValue → CallWorldValue → Type 0
CallHappens s before (CallStarted call now progress) after =
    (StartsCall (call_context_over s now before.hosts) s call before.cache progress after.cache
    ⊎ RunsOutAtStart before.cache progress after.cache)
    × (after.hosts ≡ before.hosts) × (after.calls ≡ before.calls ++ call_pending call [] progress)
CallHappens s before (CallFed c outcome progress) after =
    (front : List PendingCallValue) × (back : List PendingCallValue) × (before.calls ≡ front ++ c ∷ back)
    × (is : ResumesCall (call_context_over s c.waiting.lookup.now before.hosts) c.waiting outcome before.cache
    progress after.cache)
    × (after.hosts ≡ before.hosts)
    × (after.calls
    ≡ placed is.0 front (call_pending c.call (c.asks ++ exchange_with c outcome ∷ []) progress) back)
CallHappens s before (CallDropped c) after =
    (front : List PendingCallValue) × (back : List PendingCallValue) × (before.calls ≡ front ++ c ∷ back)
    × (after ≡ record before { calls = front ++ back })
CallHappens s before AllCleared after = after ≡ record before { cache = record before.cache { entries = [] } }
CallHappens s before (NameCleared t name) after =
    after ≡ record before { cache = after_clear s t name before.cache }
CallHappens s before (HostsReplaced hosts) after = after ≡ record before { hosts = hosts }

-- one event after another
abbrev pub CallsHappen : Settings → CallWorldValue → List CallEventValue → CallWorldValue → Type 0
CallsHappen s before [] after = after ≡ before
CallsHappen s before (event ∷ events) after =
    (mid : CallWorldValue) × CallHappens s before event mid × CallsHappen s mid events after

-- the call that an event ended, if it ended one
abbrev pub calls_ended_by : CallEventValue → List DoneCallValue
calls_ended_by (CallStarted call now progress) = call_done call now [] progress
calls_ended_by (CallFed c outcome progress) =
    call_done c.call c.waiting.lookup.now (c.asks ++ exchange_with c outcome ∷ []) progress
calls_ended_by other = []

-- what came back, with the moment of the call's start
abbrev pub calls_received_by : CallEventValue → List Dated
calls_received_by (CallFed c outcome progress) =
    dated_exchanges c.waiting.lookup.now (exchange_with c outcome ∷ [])
calls_received_by other = []

abbrev pub calls_received_in : List CallEventValue → List Dated
calls_received_in [] = []
calls_received_in (event ∷ events) = calls_received_by event ++ calls_received_in events

-- the tables of hosts that were put in place
abbrev pub tables_by : CallEventValue → List (List Host)
tables_by (HostsReplaced hosts) = hosts ∷ []
tables_by other = []

abbrev pub tables_in : List CallEventValue → List (List Host)
tables_in [] = []
tables_in (event ∷ events) = tables_by event ++ tables_in events

-- the table of hosts that stands after these were put in place, one after another, where this one stood before
abbrev pub last_table : List Host → List (List Host) → List Host
last_table hosts [] = hosts
last_table hosts (others ∷ tables) = last_table others tables

-- The tables of hosts that stood from the start of a call on, which was started at this moment among these events, over
-- this table at first: the one that stood when it was started, and those that were put in place since.
pub record StoodSince
    (first : List Host) (events : List CallEventValue) (call : Call) (now : ℕ) (tables : List (List Host))
    : Type 0 where
  pub earlier : List CallEventValue
  pub progress : CallProgressValue
  pub later : List CallEventValue
  pub are : events ≡ earlier ++ CallStarted call now progress ∷ later
  pub tables_are : tables ≡ last_table first (tables_in earlier) ∷ tables_in later

-- ---- what is promised

-- a question of a call: of a name that it attempts, for a type of its plan
abbrev pub IsQuestionOf : Settings → Call → Query → Type 0
IsQuestionOf s (AtOnce answer) q = ⊥
IsQuestionOf s (Attempt n plan) q =
    (name : NameValue) × (t : RecordType) × (results : List LookupResult) × Contains (attempts s.search n) name
    × (next_type plan.types results ≡ Some t) × (q ≡ question_of name t)

-- a call was started at this moment among these events
abbrev pub IsStartedIn : List CallEventValue → Call → ℕ → Type 0
IsStartedIn events call now = (progress : CallProgressValue) × Contains events (CallStarted call now progress)

-- the question of a look-up is one of a call that was started at the look-up's moment
abbrev pub IsAskedIn : Settings → List CallEventValue → DoneValue → Type 0
IsAskedIn s events d = (call : Call) × IsStartedIn events call d.now × IsQuestionOf s call d.question

-- A look-up that ended among these events, with what is promised of it: see `IsPromisedEnd`.
pub record IsPromisedAmong
    (preserve : Bool) (empty : CacheValue) (lookups : List EventValue) (d : DoneValue)
    : Type 0 where
  pub earlier : List EventValue
  pub event : EventValue
  pub later : List EventValue
  pub are : lookups ≡ earlier ++ event ∷ later
  pub before : WorldValue
  pub after : WorldValue
  pub happened : Happen preserve (world_of empty) earlier before
  pub happens : Happens preserve before event after
  pub is_end : ended_by event ≡ d ∷ []
  pub promised : IsPromisedEnd preserve (received_in earlier ++ received_by event)
      (ended_in earlier ++ ended_by event) before after d

-- the client answered a question of a call: by a look-up that ended among these events, and one of these tables of
-- hosts, if one was looked at, does not have it
pub record IsInterleavedLookup
    (s : Settings) (empty : CacheValue) (tables : List (List Host)) (lookups : List EventValue) (now : ℕ)
    (with_hosts : Bool) (p : SubLookup)
    : Type 0 where
  pub hosts : List Host
  pub stood : Contains tables hosts
  pub not_in_hosts : NotInHosts with_hosts p.question now hosts
  pub lookup : DoneValue
  pub question_is : lookup.question ≡ p.question
  pub now_is : lookup.now ≡ now
  pub asks_are : lookup.asks ≡ p.asks
  pub result_is : lookup.result ≡ p.result
  pub promised : IsPromisedAmong s.preserve_intermediates empty lookups lookup

abbrev pub IsInterleavedFrom : Source → Settings → CacheValue → List (List Host) → List EventValue → ℕ → Bool
    → CacheValue → SubLookup → CacheValue → Type 0
IsInterleavedFrom Hosts s empty tables lookups now with_hosts before p after =
    (hosts : List Host) × Contains tables hosts
    × IsAnsweredByHosts (call_context_over s now hosts) with_hosts before p after
IsInterleavedFrom Client s empty tables lookups now with_hosts before p after =
    IsInterleavedLookup s empty tables lookups now with_hosts p × (after ≡ before)

-- How a question of a call is answered: by one of these tables of hosts, or by a look-up that ended among these events.
-- It hands no cache on, as the look-ups read those that stood.
abbrev pub InterleavedSubLookup : Settings → CacheValue → List (List Host) → List EventValue → ℕ → SubLookupRelation
InterleavedSubLookup s empty tables lookups now with_hosts before q p after =
    (p.question ≡ q) × IsInterleavedFrom p.source s empty tables lookups now with_hosts before p after

-- A call that is done is made of sub-look-ups, as one that blocks: each is answered by one of these tables of hosts, or
-- by a look-up that keeps its promises; the exchanges of the call are theirs; and its result is what the call makes of
-- their results. Or memory ran out before anything was attempted.
pub record IsPromisedCallEnd
    (s : Settings) (empty : CacheValue) (tables : List (List Host)) (lookups : List EventValue) (d : DoneCallValue)
    : Type 0 where
  pub parts : List SubLookup
  pub asks_are : d.asks ≡ asks_of_sub_lookups parts
  pub is : IsCallBy (InterleavedSubLookup s empty tables lookups d.now) s empty d.call parts d.result empty

-- The tables are those that stood from the start of the call on.
abbrev pub IsPromisedCallEndSince : Settings → CacheValue → List Host → List CallEventValue → List EventValue
    → DoneCallValue → Type 0
IsPromisedCallEndSince s empty first events lookups d =
    (tables : List (List Host)) × StoodSince first events d.call d.now tables
    × IsPromisedCallEnd s empty tables lookups d

-- The event after some events over a cache without entries, with no call in flight at first. To the client, what
-- happened up to then are these events, of look-ups: over the same cache, by the same exchanges, and for questions of
-- the calls alone. The call that the event ended keeps its promises.
pub record IsPromisedCallEvent
    (s : Settings) (empty : CacheValue) (first : List Host) (events : List CallEventValue) (event : CallEventValue)
    (after : CallWorldValue)
    : Type 0 where
  pub lookups : List EventValue
  pub world : WorldValue
  pub happen : Happen s.preserve_intermediates (world_of empty) lookups world
  pub cache_is : world.cache ≡ after.cache
  pub received_is : received_in lookups ≡ calls_received_in events ++ calls_received_by event
  pub asked : AllByRecursion (IsAskedIn s (events ++ event ∷ [])) (ended_in lookups)
  pub ended : AllByRecursion (IsPromisedCallEndSince s empty first (events ++ event ∷ []) lookups) (calls_ended_by event)

-- Of every event, whatever came before it: so of each event of a list.
abbrev pub IsPromisedCallInterleaving : Settings → CacheValue → List Host → Type 0
IsPromisedCallInterleaving s empty first =
    empty.entries ≡ [] → (events : List CallEventValue) (event : CallEventValue) (before after : CallWorldValue)
    → CallsHappen s (call_world_of empty first) events before → CallHappens s before event after
    → IsPromisedCallEvent s empty first events event after
