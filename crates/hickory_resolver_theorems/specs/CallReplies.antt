-- What a call answers, among many over one resolver in any order: both families as one, after all its attempts. What is
-- promised of each of its sub-look-ups holds of this reply, as it does of a call alone and of a step of a run.
use Rattle.std.specs.Prelude.{◌≡◌, ◌⊎◌, ◌≤◌, ℕ, false, List, [], ◌∷◌, ◌++◌, length, Err}
use Rattle.std.specs.List.{AllByRecursion, Contains}
use Rattle.hickory_proto_core.specs.Table.{TableValue}
use Rattle.hickory_proto_core.specs.declared.query.Query.{Query}
use Rattle.hickory_proto_core.specs.declared.net_error.NetError.TheVariants.{OutOfMemory}
use Rattle.hickory_resolver_model.specs.Cache.{CacheValue}
use Rattle.hickory_resolver_model.specs.Lookup.{LookupResult}
use Rattle.hickory_resolver_model.specs.Hosts.{Host}
use Rattle.hickory_resolver_model.specs.Calls.{SubLookup, SubLookupRelation, is_out_of_memory}
use Rattle.hickory_resolver_model.specs.Run.{Settings, Call, IsCall}
use Rattle.hickory_resolver_theorems.specs.Cacheless.{MeansWithinEight}
use Rattle.hickory_resolver_theorems.specs.CallFacts.{AreFreshReplies}
use Rattle.hickory_resolver_theorems.specs.Cores.{reply_core}
use Rattle.hickory_resolver_theorems.specs.Covered.{Dated}
use Rattle.hickory_resolver_theorems.specs.Interleaved.{DoneValue, EventValue, ended_in, DoneWithinEight, IsSeenBy}
use Rattle.hickory_resolver_theorems.specs.InterleavedCalls.{DoneCallValue, CallWorldValue, call_world_of, call_context_over, CallEventValue, CallHappens, CallsHappen, calls_ended_by, calls_received_by, calls_received_in, StoodSince, IsQuestionOf, IsStartedIn, IsPromisedCallEnd, IsPromisedCallEvent}
use Rattle.hickory_resolver_theorems.specs.Statements.{CachelessSubLookup}

-- how the resolver without a cache answers a question of a call: by one of these tables of hosts, as any, or by the
-- meaning of the question, where one of these tables, if it is looked at, does not have it
abbrev pub CachelessSubLookupOver : TableValue → Settings → List (List Host) → ℕ → SubLookupRelation
CachelessSubLookupOver table s tables now with_hosts before q p after =
    (hosts : List Host) × Contains tables hosts
    × CachelessSubLookup table (call_context_over s now hosts) with_hosts before q p after

-- Where a table tells what was received, intermediate records are not preserved, and each question that the client
-- answered up to then means something that takes eight questions at most: the reply is out of memory, or what the call
-- comes to without a cache.
abbrev pub IsTransparentReply : Settings → CacheValue → List (List Host) → List Dated → List DoneValue → DoneCallValue
    → List SubLookup → Type 0
IsTransparentReply s empty tables received ended d parts =
    (table : TableValue) → IsSeenBy table s.preserve_intermediates received ended
    → (d.result ≡ Err OutOfMemory)
    ⊎ IsCall (CachelessSubLookupOver table s tables d.now) s empty d.call parts d.result empty

-- Without a cache a call comes to one reply, TTLs, deadlines, headers, case and out of memory aside, where the table of
-- hosts is never replaced. Where it is, each question may be answered by any of the tables that stood.
abbrev pub IsOneCachelessCall : TableValue → Settings → CacheValue → List Host → ℕ → Call → Type 0
IsOneCachelessCall table s empty hosts now call =
    (parts others : List SubLookup) (a b : LookupResult)
    → IsCall (CachelessSubLookupOver table s (hosts ∷ []) now) s empty call parts a empty
    → IsCall (CachelessSubLookupOver table s (hosts ∷ []) now) s empty call others b empty
    → is_out_of_memory a ≡ false → is_out_of_memory b ≡ false → reply_core a ≡ reply_core b

-- each question of the calls that were started among these events means something within eight
abbrev pub StartedWithinEight : TableValue → Settings → List CallEventValue → Type 0
StartedWithinEight table s events =
    (call : Call) (now : ℕ) (q : Query) → IsStartedIn events call now → IsQuestionOf s call q
    → MeansWithinEight table q

-- The reply of a call that is done, with what was received up to then, for this call or another. It is made of
-- sub-look-ups (`IsPromisedCallEnd`), of which each sent eight questions at most. It is an answer of the call's own (a
-- literal address), or each of its answers was given by a sub-look-up, to be used as long or longer; and where the least
-- TTL of the type that was asked is zero, none of that type that the client gave outlives what was received. A cache does
-- not change it, under its premises. That no alias outlives its CNAMEs is said of each sub-look-up.
pub record IsPromisedCallReply
    (s : Settings) (empty : CacheValue) (tables : List (List Host)) (lookups : List EventValue)
    (received : List Dated) (d : DoneCallValue)
    : Type 0 where
  pub is : IsPromisedCallEnd s empty tables lookups d
  pub few : AllByRecursion (λ p. length p.asks ≤ 8) is.parts
  pub fresh : AreFreshReplies empty.config (λ code. received) d.now d.call is.parts d.result
  pub transparent : IsTransparentReply s empty tables received (ended_in lookups) d is.parts

-- The tables are those that stood from the start of the call on.
abbrev pub IsPromisedCallReplySince : Settings → CacheValue → List Host → List CallEventValue → List EventValue
    → List Dated → DoneCallValue → Type 0
IsPromisedCallReplySince s empty first events lookups received d =
    (tables : List (List Host)) × StoodSince first events d.call d.now tables
    × IsPromisedCallReply s empty tables lookups received d

-- The event after some events, as in `IsPromisedCallEvent`. The reply of the call that it ended keeps its promises. Where
-- each question of the calls that were started means something within eight questions, so does each that the client
-- answered, as `transparent` wants it.
pub record IsPromisedCallReplyEvent
    (s : Settings) (empty : CacheValue) (first : List Host) (events : List CallEventValue) (event : CallEventValue)
    (after : CallWorldValue)
    : Type 0 where
  pub is : IsPromisedCallEvent s empty first events event after
  pub replies : AllByRecursion
      (IsPromisedCallReplySince s empty first (events ++ event ∷ []) is.lookups
      (calls_received_in events ++ calls_received_by event)) (calls_ended_by event)
  pub meant : (table : TableValue) → StartedWithinEight table s (events ++ event ∷ [])
      → AllByRecursion (DoneWithinEight table) (ended_in is.lookups)

-- Of every event, whatever came before it: so of each event of a list.
abbrev pub ArePromisedCallReplies : Settings → CacheValue → List Host → Type 0
ArePromisedCallReplies s empty first =
    empty.entries ≡ [] → (events : List CallEventValue) (event : CallEventValue) (before after : CallWorldValue)
    → CallsHappen s (call_world_of empty first) events before → CallHappens s before event after
    → IsPromisedCallReplyEvent s empty first events event after
