-- Events over one resolver. Each is told as what happened to its calls, which have the numbers of their starts, from 0;
-- what was told happened, one after another, from the resolver's cache and table of hosts on; and from a cache without
-- entries on each call keeps its promises.
use Rattle.std.specs.Prelude.{◌≡◌, ◌≢◌, ℕ, List, [], ◌∷◌, ◌++◌, Option, Some, None, Result, Ok, Err, IfOk, IsOkUnless, get_or, set, string_bytes}
use Rattle.std.specs.declared.net.IpAddr.{IpAddr}
use Rattle.hickory_proto_core.specs.Handles.{OutcomeValue}
use Rattle.hickory_proto_core.specs.Name.{NameValue}
use Rattle.hickory_proto_core.specs.NameGiven.{IsReadAddress, IsReadName}
use Rattle.hickory_proto_core.specs.names.name_error.NameError.{NameError}
use Rattle.hickory_proto_core.specs.names.name_error.NameError.TheVariants as name_fault
use Rattle.hickory_proto_core.specs.declared.recorded.Exchange.{Exchange}
use Rattle.hickory_proto_core.specs.declared.net_error.NetError.TheVariants.{OutOfMemory}
use Rattle.hickory_resolver_model.specs.Resuming.{Waits, IsDone}
use Rattle.hickory_resolver_model.specs.Cache.{CacheValue}
use Rattle.hickory_resolver_model.specs.Hosts.{Host}
use Rattle.hickory_resolver_model.specs.Resolver.{ResolverValue, settings}
use Rattle.hickory_resolver_model.specs.Run.{Settings, Call, name_call, address_call}
use Rattle.hickory_resolver_theorems.specs.ResumingCalls.{CallProgressValue}
use Rattle.hickory_resolver_theorems.specs.InterleavedCalls.{PendingCallValue, CallWorldValue, call_world_of, CallEventValue, CallStarted, CallFed, CallDropped, AllCleared, NameCleared, exchange_with, CallHappens, CallsHappen}
use Rattle.hickory_resolver_theorems.specs.CallReplies.{IsPromisedCallReplyEvent}
use Rattle.hickory_resolver.specs.Starting.{KeepsAllButCache}
use Rattle.hickory_resolver_events.specs.declared.events.Event.{Event}
use Rattle.hickory_resolver_events.specs.declared.events.Event.TheVariants.{Start, StartIp, Resume, Abandon, ClearLookup, Clear}
use Rattle.hickory_resolver_events.specs.declared.events.EventReply.{EventReply}
use Rattle.hickory_resolver_events.specs.declared.events.EventReply.TheVariants.{Waits, Done, Dropped, Cleared, NoCall}

-- what is said of how far a call came: its result, or its question, where there is memory for a copy of it
abbrev pub TellsProgress : CallProgressValue → EventReply → Type 0
TellsProgress (Waits w) (Waits question) =
    IfOk question (λ q. q ≡ w.lookup.hop.query) × IsOkUnless question OutOfMemory
TellsProgress (IsDone result) (Done told) = told ≡ result
TellsProgress progress reply = ⊥

-- ---- what is told of an event

-- a call after a step, if it waits
abbrev pub pending_after : Call → List Exchange → CallProgressValue → Option PendingCallValue
pending_after call asks (Waits w) = Some (record { call = call; asks = asks; waiting = w })
pending_after call asks (IsDone result) = None

-- a call is started, and has the next number
pub record IsStarted
    (call : Call) (now : ℕ) (calls : List (Option PendingCallValue)) (reply : EventReply)
    (told : List CallEventValue) (after : List (Option PendingCallValue))
    : Type 0 where
  pub progress : CallProgressValue
  pub tells : TellsProgress progress reply
  pub told_is : told ≡ CallStarted call now progress ∷ []
  pub after_is : after ≡ calls ++ pending_after call [] progress ∷ []

-- what came back is fed to a call, if it waits
abbrev pub IsFed : Option PendingCallValue → OutcomeValue → EventReply → List CallEventValue → Option PendingCallValue
    → Type 0
IsFed None outcome reply told after = (reply ≡ NoCall) × (told ≡ []) × (after ≡ None)
IsFed (Some c) outcome reply told after =
    (progress : CallProgressValue) × TellsProgress progress reply × (told ≡ CallFed c outcome progress ∷ [])
    × (after ≡ pending_after c.call (c.asks ++ exchange_with c outcome ∷ []) progress)

-- a call is dropped, if it waits
abbrev pub IsDropped : Option PendingCallValue → EventReply → List CallEventValue → Type 0
IsDropped None reply told = (reply ≡ NoCall) × (told ≡ [])
IsDropped (Some c) reply told = (reply ≡ Dropped) × (told ≡ CallDropped c ∷ [])

-- What is told of an event, by what it came to, and the calls before and after it: those that were started, in order,
-- each that waits, and none where one is over. Nothing is told where no call of the number waits, and of a clear that
-- found no memory. A name that found no memory to be read ends its call so.
abbrev pub EventTells : Settings → List (Option PendingCallValue) → Event → EventReply → List CallEventValue
    → List (Option PendingCallValue) → Type 0
EventTells s calls (Start name t now) reply told after =
    (given : Result NameValue NameError) × IsReadName (string_bytes name) given
    × IsStarted (name_call t given) now calls reply told after
EventTells s calls (StartIp host now) reply told after =
    (address : Option IpAddr) × IsReadAddress (string_bytes host) address
    × (given : Result NameValue NameError) × IsReadName (string_bytes host) given
    × (given ≡ Err name_fault.OutOfMemory → reply ≡ Done (Err OutOfMemory))
    × IsStarted (address_call s address given now) now calls reply told after
EventTells s calls (Resume number outcome) reply told after =
    (still : Option PendingCallValue) × IsFed (get_or calls number None) outcome reply told still
    × (after ≡ set calls number still)
EventTells s calls (Abandon number) reply told after =
    IsDropped (get_or calls number None) reply told × (after ≡ set calls number None)
EventTells s calls (ClearLookup name t) (Cleared (Ok u)) told after =
    (given : Result NameValue NameError) × IsReadName (string_bytes name) given
    × (given ≢ Err name_fault.OutOfMemory) × (told ≡ NameCleared t given ∷ []) × (after ≡ calls)
EventTells s calls (ClearLookup name t) (Cleared (Err e)) told after =
    (e ≡ OutOfMemory) × (told ≡ []) × (after ≡ calls)
EventTells s calls Clear reply told after =
    (reply ≡ Cleared (Ok tt)) × (told ≡ AllCleared ∷ []) × (after ≡ calls)
EventTells s calls event reply told after = ⊥

-- of one event after another
abbrev pub AreTold : Settings → List (Option PendingCallValue) → List Event → List EventReply → List CallEventValue
    → Type 0
AreTold s calls [] [] told = told ≡ []
AreTold s calls (event ∷ events) (reply ∷ replies) told =
    (first : List CallEventValue) × (later : List CallEventValue) × (told ≡ first ++ later)
    × (after : List (Option PendingCallValue)) × EventTells s calls event reply first after
    × AreTold s after events replies later
AreTold s calls events replies told = ⊥

-- ---- what is promised

-- After some events over a cache without entries these happen, one after another. Each keeps its promises, whatever
-- came before it, and so does the reply of the call that it ended.
abbrev pub HappenAsPromised : Settings → CacheValue → List Host → List CallEventValue → CallWorldValue
    → List CallEventValue → CallWorldValue → Type 0
HappenAsPromised s empty first earlier before [] end = end ≡ before
HappenAsPromised s empty first earlier before (event ∷ later) end =
    (after : CallWorldValue) × CallHappens s before event after
    × IsPromisedCallReplyEvent s empty first earlier event after
    × HappenAsPromised s empty first (earlier ++ event ∷ []) after later end

-- A resolver took events: what is told of them happened, from its cache and its table of hosts on, with no call in
-- flight at first; the cache alone has changed; and where it had no entries at first, all is as promised.
pub record IsPlayed
    {H : Type 0} (before : ResolverValue H) (events : List Event) (replies : List EventReply)
    (after : ResolverValue H)
    : Type 0 where
  pub told : List CallEventValue
  pub tells : AreTold (settings before) [] events replies told
  pub world : CallWorldValue
  pub happen : CallsHappen (settings before) (call_world_of before.client.cache before.hosts) told world
  pub cache_is : after.client.cache ≡ world.cache
  pub others_stay : KeepsAllButCache before after
  pub promised : before.client.cache.entries ≡ []
      → HappenAsPromised (settings before) before.client.cache before.hosts []
      (call_world_of before.client.cache before.hosts) told world
