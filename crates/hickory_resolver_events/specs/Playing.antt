-- How a resolver takes events: each is the call of the resolver that it stands for. Calls that were started stand in
-- the order of their starts, each that waits, and none where one is over.
use Rattle.std.specs.Prelude.{◌≡◌, ◌≢◌, List, [], ◌∷◌, ◌++◌, Option, Some, None, Result, Ok, Err, OnOk, OnErr, IsOkUnless, get_or, set, string_bytes}
use Rattle.hickory_proto_core.specs.Handles.{OutcomeValue}
use Rattle.hickory_proto_core.specs.Name.{NameValue}
use Rattle.hickory_proto_core.specs.NameGiven.{IsReadAddress, IsReadName}
use Rattle.hickory_proto_core.specs.names.name_error.NameError.{NameError}
use Rattle.hickory_proto_core.specs.names.name_error.NameError.TheVariants as name_fault
use Rattle.hickory_proto_core.specs.declared.net_error.NetError.TheVariants.{OutOfMemory}
use Rattle.hickory_resolver_model.specs.Resuming.{Waits, IsDone}
use Rattle.hickory_resolver_model.specs.Resolver.{ResolverValue, after_clear_lookup}
use Rattle.hickory_resolver_theorems.specs.ResumingCalls.{WaitingCallValue, CallProgressValue}
use Rattle.hickory_resolver_events.specs.Events.{TellsProgress}
use Rattle.hickory_resolver.specs.Starting.{ResumesAt, StartsHost, StartsName}
use Rattle.hickory_resolver_events.specs.declared.events.Event.{Event}
use Rattle.hickory_resolver_events.specs.declared.events.Event.TheVariants.{Start, StartIp, Resume, Abandon, ClearLookup, Clear}
use Rattle.hickory_resolver_events.specs.declared.events.EventReply.{EventReply}
use Rattle.hickory_resolver_events.specs.declared.events.EventReply.TheVariants.{Dropped, Cleared, NoCall}

-- a call that came so far, if it waits
abbrev pub waiting_in : CallProgressValue → Option WaitingCallValue
waiting_in (Waits w) = Some w
waiting_in (IsDone result) = None

-- a call goes on with what came back, if it waits
abbrev pub TakesOutcome : {H : Type 0} → Option WaitingCallValue → OutcomeValue → ResolverValue H → EventReply
    → ResolverValue H → Option WaitingCallValue → Type 0
TakesOutcome None outcome before reply after still = (reply ≡ NoCall) × (after ≡ before) × (still ≡ None)
TakesOutcome (Some w) outcome before reply after still =
    (progress : CallProgressValue) × ResumesAt w outcome before progress after × TellsProgress progress reply
    × (still ≡ waiting_in progress)

-- a call is dropped, if it waits
abbrev pub TakesDrop : Option WaitingCallValue → EventReply → Type 0
TakesDrop None reply = reply ≡ NoCall
TakesDrop (Some w) reply = reply ≡ Dropped

-- an event, over a resolver and the calls that were started: what it comes to, and both after it
abbrev pub Takes : {H : Type 0} → Event → ResolverValue H → List (Option WaitingCallValue) → EventReply
    → ResolverValue H → List (Option WaitingCallValue) → Type 0
Takes (Start name t now) before waiting reply after still =
    (progress : CallProgressValue) × StartsName (IsReadName (string_bytes name)) t now before progress after
    × TellsProgress progress reply × (still ≡ waiting ++ waiting_in progress ∷ [])
Takes (StartIp host now) before waiting reply after still =
    (progress : CallProgressValue)
    × StartsHost (IsReadAddress (string_bytes host)) (IsReadName (string_bytes host)) now before progress after
    × TellsProgress progress reply × (still ≡ waiting ++ waiting_in progress ∷ [])
Takes (Resume call outcome) before waiting reply after still =
    (place : Option WaitingCallValue)
    × TakesOutcome (get_or waiting call None) outcome before reply after place × (still ≡ set waiting call place)
Takes (Abandon call) before waiting reply after still =
    TakesDrop (get_or waiting call None) reply × (after ≡ before) × (still ≡ set waiting call None)
Takes (ClearLookup name t) before waiting (Cleared done) after still =
    OnOk done ((given : Result NameValue NameError) × IsReadName (string_bytes name) given
    × (given ≢ Err name_fault.OutOfMemory) × (after ≡ after_clear_lookup t given before))
    × OnErr done (after ≡ before) × IsOkUnless done OutOfMemory × (still ≡ waiting)
Takes Clear before waiting reply after still =
    (reply ≡ Cleared (Ok tt))
    × (after ≡ record before { client = record before.client { cache = record before.client.cache { entries = [] } } })
    × (still ≡ waiting)
Takes event before waiting reply after still = ⊥

-- one event after another
abbrev pub Plays : {H : Type 0} → List Event → ResolverValue H → List (Option WaitingCallValue) → List EventReply
    → ResolverValue H → List (Option WaitingCallValue) → Type 0
Plays [] before waiting [] after still = (after ≡ before) × (still ≡ waiting)
Plays {H} (event ∷ events) before waiting (reply ∷ replies) after still =
    (mid : ResolverValue H) × (between : List (Option WaitingCallValue))
    × Takes event before waiting reply mid between × Plays events mid between replies after still
Plays events before waiting replies after still = ⊥
