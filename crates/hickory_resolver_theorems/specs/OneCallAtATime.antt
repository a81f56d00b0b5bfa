-- A run, as long as memory does not run out, is a list of events of calls over one resolver, with one call in flight at a
-- time: a request is a call that is started and then fed with what comes back to it, until it is done; or it is a clear.
use Rattle.std.specs.Prelude.{◌≡◌, false, List, [], ◌∷◌, ◌++◌, flat_map, Result}
use Rattle.std.specs.List.{AllByRecursion}
use Rattle.hickory_proto_core.specs.Name.{NameValue}
use Rattle.hickory_proto_core.specs.NameDecided.{IsReading}
use Rattle.hickory_proto_core.specs.names.name_error.NameError.{NameError}
use Rattle.hickory_proto_core.specs.declared.recorded.Exchange.{Exchange}
use Rattle.hickory_resolver_model.specs.Cache.{CacheValue}
use Rattle.hickory_resolver_model.specs.Lookup.{LookupResult}
use Rattle.hickory_resolver_model.specs.Run.{Settings, GivenName, IsGivenBy, Call, name_call, address_call, RequestValue, Lookup, LookupIp, ClearLookup, Clear, StepValue, StepReply, LookedUp, LookedUpIp, Cleared, ends_run, Stage, Run}
use Rattle.hickory_resolver_theorems.specs.Covered.{dated_exchanges}
use Rattle.hickory_resolver_theorems.specs.InterleavedCalls.{CallWorldValue, call_world_of, CallEventValue, CallFed, AllCleared, NameCleared, CallsHappen, calls_ended_by, calls_received_in}

-- while a call waits, nothing happens but that what came back is fed to it
abbrev pub HappensAlone : CallWorldValue → CallEventValue → Type 0
HappensAlone before (CallFed c outcome progress) = Unit {0}
HappensAlone before other = before.calls ≡ []

abbrev pub HappenAlone : (s : Settings) (before : CallWorldValue) (events : List CallEventValue) (after : CallWorldValue)
    → CallsHappen s before events after → Type 0
HappenAlone s before [] after happen = Unit {0}
HappenAlone s before (event ∷ events) after (mid, is, rest) =
    HappensAlone before event × HappenAlone s mid events after rest

-- the call of a request
abbrev pub IsCallOf : Settings → RequestValue → Call → Type 0
IsCallOf s (Lookup text t now) call =
    (name : Result NameValue NameError) × IsReading text name × (call ≡ name_call t name)
IsCallOf s (LookupIp text now) call =
    (given : GivenName) × IsGivenBy text given × (call ≡ address_call s given.address given.name now)
IsCallOf s other call = ⊥

-- one call is done by these events: that of the request, from the moment of the step, by its exchanges, with this result
abbrev pub AreOfCall : Settings → Stage → LookupResult → List CallEventValue → Type 0
AreOfCall s stage result events =
    (call : Call) × IsCallOf s stage.request call
    × (flat_map calls_ended_by events
    ≡ record { call = call; now = stage.step.now; asks = stage.piece; result = result } ∷ [])

-- the clear of a request
abbrev pub IsClearOf : RequestValue → CallEventValue → Type 0
IsClearOf (ClearLookup text t now) event =
    (name : Result NameValue NameError) × IsReading text name × (event ≡ NameCleared t name)
IsClearOf (Clear now) event = event ≡ AllCleared
IsClearOf other event = ⊥

-- the events of a step, by its reply: a call is done, or the cache is cleared
abbrev pub AreOfReply : Settings → Stage → StepReply → List CallEventValue → Type 0
AreOfReply s stage (LookedUp reply) events = AreOfCall s stage reply events
AreOfReply s stage (LookedUpIp reply) events = AreOfCall s stage reply events
AreOfReply s stage (Cleared done) events =
    (event : CallEventValue) × IsClearOf stage.request event × (events ≡ event ∷ [])

-- and what was received in them is the exchanges of the step, with its moment
abbrev pub AreOfStep : Settings → Stage → List CallEventValue → Type 0
AreOfStep s stage events =
    AreOfReply s stage stage.step.reply events
    × (calls_received_in events ≡ dated_exchanges stage.step.now stage.piece)

-- those of one step after another
abbrev pub AreOfSteps : Settings → List Stage → List CallEventValue → Type 0
AreOfSteps s [] events = events ≡ []
AreOfSteps s (stage ∷ stages) events =
    (own : List CallEventValue) × (rest : List CallEventValue) × (events ≡ own ++ rest) × AreOfStep s stage own
    × AreOfSteps s stages rest

-- no step ran out of memory
abbrev pub HaveMemory : List Stage → Type 0
HaveMemory stages = AllByRecursion (λ stage. ends_run stage.step.reply ≡ false) stages

-- the cache before some steps, the last of a run that ends at this cache
abbrev pub cache_before : List Stage → CacheValue → CacheValue
cache_before [] after = after
cache_before (stage ∷ stages) after = stage.before

-- The events of some steps, from one cache to another, with one call in flight at a time.
pub record AreOneCallAtATime (s : Settings) (before : CacheValue) (stages : List Stage) (after : CacheValue)
    : Type 0 where
  pub events : List CallEventValue
  pub happen : CallsHappen s (call_world_of before s.hosts) events (call_world_of after s.hosts)
  pub alone : HappenAlone s (call_world_of before s.hosts) events (call_world_of after s.hosts) happen
  pub are : AreOfSteps s stages events

-- Of a run: there are such events of each beginning of it in which memory does not run out, so of all its steps but a
-- last one that does. A look-up that blocks may end there in more ways than one that is fed.
abbrev pub IsOneCallAtATime : (s : Settings) (before : CacheValue) (requests : List RequestValue)
    (steps : List StepValue) (exchanges : List Exchange) (after : CacheValue)
    → Run s before requests steps exchanges after → Type 0
IsOneCallAtATime s before requests steps exchanges after run =
    (earlier : List Stage) (later : List Stage) → run.stages ≡ earlier ++ later → HaveMemory earlier
    → AreOneCallAtATime s before earlier (cache_before later after)
