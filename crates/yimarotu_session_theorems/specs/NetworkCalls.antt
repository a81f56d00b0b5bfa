-- What happened to the calls of a session with a network, as its events tell. Each look-up has one call, which is known
-- by the number of the look-up.
use Rattle.std.specs.Prelude.{◌≡◌, ◌≢◌, ◌⊎◌, ◌/◌, ℕ, Bool, true, false, List, [], ◌∷◌, ◌++◌, nat_eq, Option, None, Some, Result, Ok, Err, if◌then◌else◌}
use Rattle.std.specs.List.{Contains}
use Rattle.std.specs.declared.net.IpAddr.{IpAddr}
use Rattle.hickory_proto_core.specs.Codes.{type_code}
use Rattle.hickory_proto_core.specs.Handles.{OutcomeValue}
use Rattle.hickory_proto_core.specs.Name.{NameValue}
use Rattle.hickory_proto_core.specs.NameGiven.{IsReadAddress, IsReadName}
use Rattle.hickory_proto_core.specs.codes.record_type.RecordType.{RecordType}
use Rattle.hickory_proto_core.specs.declared.net_error.NetError.TheVariants as net
use Rattle.hickory_proto_core.specs.names.name_error.NameError.{NameError}
use Rattle.hickory_proto_core.specs.names.name_error.NameError.TheVariants as name_fault
use Rattle.hickory_resolver_events.specs.Events.{pending_after}
use Rattle.hickory_resolver_model.specs.Calls.{Both}
use Rattle.hickory_resolver_model.specs.Hosts.{as_fqdn}
use Rattle.hickory_resolver_model.specs.Resuming.{IsDone}
use Rattle.hickory_resolver_model.specs.Run.{Call, Settings, address_call, family_order, name_call}
use Rattle.hickory_resolver_theorems.specs.InterleavedCalls.{AllCleared, CallDropped, CallEventValue, CallFed, CallStarted, IsStartedIn, NameCleared, PendingCallValue, exchange_with}
use Rattle.hickory_resolver_theorems.specs.ResumingCalls.{CallProgressValue}
use Rattle.yimarotu_session.specs.declared.session_error.SessionError.{SessionError}
use Rattle.yimarotu_session.specs.declared.session_error.SessionError.TheVariants.{InUse, OutOfMemory}
use Rattle.yimarotu_session_theorems.specs.NetworkRuns.{NetworkEvent, all_is_cleared, host_is_started, is_cancelled, is_started, is_stepped, name_is_cleared}

-- ---- the calls of look-ups

-- Under each number the events of the call that was begun last under it, the latest first; none where no look-up has
-- the number.
abbrev pub Calls : Type 0
Calls = ℕ → List CallEventValue

abbrev pub no_calls : Calls
no_calls number = []

-- under this number are these now
abbrev pub under : ℕ → List CallEventValue → Calls → Calls
under number events calls other = if nat_eq number other then events else calls other

abbrev pub has_call : List CallEventValue → Bool
has_call [] = false
has_call (event ∷ earlier) = true

-- the call after an event of it, where it waits
abbrev pub waits_after : CallEventValue → Option PendingCallValue
waits_after (CallStarted call now progress) = pending_after call [] progress
waits_after (CallFed c outcome progress) = pending_after c.call (c.asks ++ exchange_with c outcome ∷ []) progress
waits_after other = None

abbrev pub waits_now : List CallEventValue → Option PendingCallValue
waits_now [] = None
waits_now (event ∷ earlier) = waits_after event

-- a call that waits is dropped
abbrev pub dropped : Option PendingCallValue → List CallEventValue
dropped None = []
dropped (Some c) = CallDropped c ∷ []

-- ---- what is told of an event

-- nothing
abbrev pub IsSilent : Calls → List CallEventValue → Calls → Type 0
IsSilent before told after = (told ≡ []) × (after ≡ before)

-- a call is begun under a number that has none
abbrev pub IsBegun : ℕ → CallEventValue → Calls → List CallEventValue → Calls → Type 0
IsBegun number event before told after =
    (before number ≡ []) × (told ≡ event ∷ []) × (after ≡ under number (event ∷ []) before)

-- none is begun where the number has one, or where memory ran out
abbrev pub IsRefused : SessionError → List CallEventValue → Type 0
IsRefused error [] = error ≡ OutOfMemory
IsRefused error (event ∷ earlier) = error ≡ InUse

-- ---- what is told of a step

-- the call of a look-up goes on, as it waits
pub record CallGoesOn (before : Calls) (told : List CallEventValue) (after : Calls) : Type 0 where
  pub number : ℕ
  pub call : PendingCallValue
  pub outcome : OutcomeValue
  pub progress : CallProgressValue
  pub waits : waits_now (before number) ≡ Some call
  pub told_is : told ≡ CallFed call outcome progress ∷ []
  pub after_is : after ≡ under number (CallFed call outcome progress ∷ before number) before

-- A look-up of the second family alone, at the name at which the call of a look-up waited for the first, and at the
-- moment of that call. No alias had led to that name.
pub record IsOfSecond (s : Settings) (events : List CallEventValue) (call : Call) (now : ℕ) : Type 0 where
  pub event : CallEventValue
  pub among : Contains events event
  pub waited : PendingCallValue
  pub waits : waits_after event ≡ Some waited
  pub started : IsStartedIn events waited.call now
  pub no_alias : waited.waiting.lookup.passed ≡ []
  pub first : RecordType
  pub second : RecordType
  pub both : family_order s.strategy ≡ Both first second
  pub of_first : type_code waited.waiting.lookup.hop.query.query_type ≡ type_code first
  pub call_is : call ≡ name_call second (Ok (as_fqdn waited.waiting.lookup.hop.query.name))

-- it goes on, where it waits
abbrev pub GoesOnOnce : Option PendingCallValue → List CallEventValue → Type 0
GoesOnOnce None told = ⊥
GoesOnOnce (Some c) told =
    (outcome : OutcomeValue) × (progress : CallProgressValue)
    × (told ≡ CallFed c outcome progress ∷ dropped (waits_after (CallFed c outcome progress)))

-- a call is begun, goes on once at the most, and is dropped where it waits then
pub record ComesAndGoes (call : Call) (now : ℕ) (told : List CallEventValue) : Type 0 where
  pub progress : CallProgressValue
  pub later : List CallEventValue
  pub told_is : told ≡ CallStarted call now progress ∷ later
  pub goes : (later ≡ dropped (waits_after (CallStarted call now progress)))
      ⊎ GoesOnOnce (waits_after (CallStarted call now progress)) later

-- what was asked ahead of a look-up is heard
pub record HearsSecond (s : Settings) (before : Calls) (told : List CallEventValue) (after : Calls) : Type 0 where
  pub number : ℕ
  pub call : Call
  pub now : ℕ
  pub second : IsOfSecond s (before number) call now
  pub comes_and_goes : ComesAndGoes call now told
  pub calls_stay : after ≡ before

abbrev pub StepTells : Settings → Calls → List CallEventValue → Calls → Type 0
StepTells s before told after =
    IsSilent before told after ⊎ (CallGoesOn before told after ⊎ HearsSecond s before told after)

-- ---- what is told of events

-- What is told of an event, and the calls of look-ups before and after it. The moment of a call is the second in which
-- it was started.
abbrev pub EventTells : Settings → NetworkEvent → Calls → List CallEventValue → Calls → Type 0
EventTells s (is_started number name t now (Ok u)) before told after =
    (given : Result NameValue NameError) × IsReadName name given × (progress : CallProgressValue)
    × IsBegun number (CallStarted (name_call t given) (now / 1000) progress) before told after
EventTells s (host_is_started number host now (Ok u)) before told after =
    (address : Option IpAddr) × IsReadAddress host address
    × (given : Result NameValue NameError) × IsReadName host given × (progress : CallProgressValue)
    × (given ≡ Err name_fault.OutOfMemory → progress ≡ IsDone (Err net.OutOfMemory))
    × IsBegun number (CallStarted (address_call s address given (now / 1000)) (now / 1000) progress) before told after
EventTells s (is_started number name t now (Err error)) before told after =
    IsRefused error (before number) × IsSilent before told after
EventTells s (host_is_started number host now (Err error)) before told after =
    IsRefused error (before number) × IsSilent before told after
EventTells s (is_cancelled number now was_there) before told after =
    (was_there ≡ has_call (before number)) × (told ≡ dropped (waits_now (before number)))
    × (after ≡ under number [] before)
EventTells s (name_is_cleared name t (Ok u)) before told after =
    (given : Result NameValue NameError) × IsReadName name given × (given ≢ Err name_fault.OutOfMemory)
    × (told ≡ NameCleared t given ∷ []) × (after ≡ before)
EventTells s (name_is_cleared name t (Err error)) before told after =
    (error ≡ OutOfMemory) × IsSilent before told after
EventTells s all_is_cleared before told after = (told ≡ AllCleared ∷ []) × (after ≡ before)
EventTells s (is_stepped action) before told after = StepTells s before told after
EventTells s other before told after = IsSilent before told after

-- of one event after another: the latest is the first, and what is told of it is the last
pub data AreTold (s : Settings) : List NetworkEvent → List CallEventValue → Calls → Type 0 where
  at_first : AreTold s [] [] no_calls
  next : (past : List NetworkEvent) (event : NetworkEvent) (earlier last : List CallEventValue) (before after : Calls)
      → EventTells s event before last after → AreTold s past earlier before
      → AreTold s (event ∷ past) (earlier ++ last) after
