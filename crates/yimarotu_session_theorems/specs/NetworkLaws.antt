-- What holds of a session with a network after every list of events and steps.
use Rattle.std.specs.Prelude.{◌≡◌, ◌⊎◌, Bool, List, [], ◌∷◌, ◌++◌, ℕ, None, Ok, Option, Some, true}
use Rattle.std.specs.List.{AllByRecursion}
use Rattle.hickory_proto_core.specs.Handles.{OutcomeValue}
use Rattle.hickory_proto_core.specs.Messages.{MessageValue}
use Rattle.hickory_proto_core.specs.declared.dns_request.DnsRequestOptions.{DnsRequestOptions}
use Rattle.hickory_proto_core.specs.declared.query.Query.{Query}
use Rattle.hickory_resolver.specs.Starting.{KeepsAllButCache}
use Rattle.hickory_resolver_events.specs.Events.{HappenAsPromised}
use Rattle.hickory_resolver_model.specs.Lookup.{LookupResult}
use Rattle.hickory_resolver_model.specs.Resolver.{ResolverValue, settings}
use Rattle.hickory_resolver_model.specs.Resuming.{IsDone}
use Rattle.hickory_resolver_model.specs.Options.{request_options_of}
use Rattle.hickory_resolver_pool.specs.Over.{IsCoreOutcome, IsToldToCore, OverValue}
use Rattle.hickory_resolver_pool.specs.Laws.{is_asked}
use Rattle.hickory_resolver_pool.specs.Pool.{PoolState, asking_told, list_of, no_servers}
use Rattle.hickory_resolver_pool.specs.declared.limits.PoolLimits.{PoolLimits}
use Rattle.hickory_resolver_pool.specs.declared.over.PoolOutcome.TheVariants.{Overloaded, Unreachable}
use Rattle.hickory_resolver_pool.specs.declared.pool.Asked.{Asked}
use Rattle.hickory_resolver_pool.specs.declared.pool.Asked.TheVariants as asked
use Rattle.hickory_resolver_pool_theorems.specs.Handles.{IsReadOfOctets}
use Rattle.hickory_resolver_pool_theorems.specs.Runs.{Happening, Runs, WasOver, came}
use Rattle.hickory_resolver_pool_theorems.specs.Runs as pool
use Rattle.hickory_resolver_theorems.specs.InterleavedCalls.{CallEventValue, CallFed, CallStarted, CallWorldValue, CallsHappen, PendingCallValue, call_world_of}
use Rattle.hickory_resolver_theorems.specs.ResumingCalls.{WaitingCallValue}
use Rattle.hickory_resolver_tries.specs.Question.{question_eq, question_of}
use Rattle.hickory_resolver_tries.specs.declared.pool_question.PoolQuestion.{PoolQuestion}
use Rattle.yimarotu_session.specs.LookupTables.{TableValue, held_at}
use Rattle.yimarotu_session.specs.Messages.{whole_query}
use Rattle.yimarotu_session.specs.NetworkSessions.{NetworkValue, new_session}
use Rattle.yimarotu_session.specs.NetworkSteps.{no_dnssec}
use Rattle.yimarotu_session.specs.declared.network_lookup.NetworkLookup.{NetworkLookup}
use Rattle.yimarotu_session.specs.declared.network_lookup.NetworkLookup.TheVariants.{Done}
use Rattle.yimarotu_session.specs.declared.network_lookup.NetworkLookup.TheVariants as lookup
use Rattle.yimarotu_session_theorems.specs.NetworkCalls.{AreTold, Calls, waits_now}
use Rattle.yimarotu_session_theorems.specs.NetworkRuns.{NetworkEvent, NetworkRuns, given_in}

-- ---- what a look-up goes on with

-- It is what the core is told of a transaction for an equal question, case of the name aside, that is over. A response
-- is what octets spell that came on a channel for the question of the transaction, and were believed.
pub record IsToldByPool (first : PoolState) (past : List Happening) (question : PoolQuestion) (outcome : OutcomeValue)
    : Type 0 where
  pub over : OverValue
  pub was_over : WasOver first past over
  pub same : question_eq question over.question ≡ true
  pub told : IsCoreOutcome over outcome
  pub read : (m : MessageValue) → outcome ≡ Ok m → IsReadOfOctets was_over.earlier over m

-- what the core is told where a pool has no place for a question, or no server
abbrev pub IsToldOfRefusal : Asked → OutcomeValue → Type 0
IsToldOfRefusal (asked.Asker a) outcome = ⊥
IsToldOfRefusal asked.Overloaded outcome = IsToldToCore Overloaded None outcome
IsToldOfRefusal asked.NoServers outcome = IsToldToCore Unreachable None outcome

-- or the pool, as it stood when it was asked for an equal question, had no place for it, or no server
pub record IsRefusedByPool (past : List Happening) (question : PoolQuestion) (outcome : OutcomeValue) : Type 0 where
  pub later : List Happening
  pub earlier : List Happening
  pub before : PoolState
  pub query : Query
  pub options : DnsRequestOptions
  pub now : ℕ
  pub happened : past ≡ later ++ came before (is_asked 0 query options no_dnssec now) ∷ earlier
  pub same : question_eq question (question_of query options no_dnssec) ≡ true
  pub told : IsToldOfRefusal
      (asking_told (list_of 0 before.traffic) (question_of query options no_dnssec) before) outcome

abbrev pub IsFromPool : PoolState → List Happening → PoolQuestion → OutcomeValue → Type 0
IsFromPool first past question outcome =
    IsToldByPool first past question outcome ⊎ IsRefusedByPool past question outcome

-- the question that a look-up asks of the pool, with these options
abbrev pub question_with : DnsRequestOptions → WaitingCallValue → PoolQuestion
question_with options w = question_of (whole_query w.lookup.hop.query) options no_dnssec

-- where a call goes on, it does so with such an outcome of its question
abbrev pub IsFedFrom : PoolState → DnsRequestOptions → List Happening → CallEventValue → Type 0
IsFedFrom first options past (CallFed call outcome progress) =
    IsFromPool first past (question_with options call.waiting) outcome
IsFedFrom first options past other = Unit {0}

-- ---- what a look-up comes to

-- an event of a call with which it came to this
abbrev pub ComesTo : LookupResult → CallEventValue → Type 0
ComesTo result (CallStarted call now progress) = progress ≡ IsDone result
ComesTo result (CallFed call outcome progress) = progress ≡ IsDone result
ComesTo result other = ⊥

-- a call came to this among these events
pub record SomeComesTo (result : LookupResult) (told : List CallEventValue) : Type 0 where
  pub earlier : List CallEventValue
  pub event : CallEventValue
  pub later : List CallEventValue
  pub among : told ≡ earlier ++ event ∷ later
  pub comes_to : ComesTo result event

-- each look-up that is done came to what a call came to
abbrev pub AreOfCalls : List CallEventValue → TableValue → Type 0
AreOfCalls told table =
    (number : ℕ) (found : LookupResult) (announced : Bool) → held_at number table ≡ Some (Done found announced)
    → SomeComesTo found told

-- ---- what a look-up has

-- its call waits with this
abbrev pub IsWaiting : WaitingCallValue → Option PendingCallValue → Type 0
IsWaiting w held = (c : PendingCallValue) × (held ≡ Some c) × (c.waiting ≡ w)

-- its call came to this
abbrev pub HasCome : LookupResult → List CallEventValue → Type 0
HasCome result [] = ⊥
HasCome result (event ∷ earlier) = ComesTo result event

-- A look-up waits as its call does, and came to what its call came to. Where there is none, there is no call.
abbrev pub IsAsCall : List CallEventValue → Option NetworkLookup → Type 0
IsAsCall call None = call ≡ []
IsAsCall call (Some (lookup.Asks w)) = IsWaiting w (waits_now call)
IsAsCall call (Some (lookup.Asked w a)) = IsWaiting w (waits_now call)
IsAsCall call (Some (Done found announced)) = HasCome found call

-- and so is each of them as the call that was begun last under its number
abbrev pub AreAsCalls : Calls → TableValue → Type 0
AreAsCalls calls table = (number : ℕ) → IsAsCall (calls number) (held_at number table)

-- ---- what happened to the resolver

-- What happened to the resolver of a session is a list of events of its calls, one after another from its cache and its
-- table of hosts on: calls start, go on with what the pool told, and are dropped, and the cache is cleared. It is what
-- the session's events tell, in their order, and each look-up is as the call that was begun last under its number. Of
-- the resolver the cache alone has changed. Where it had no entries at first, each event keeps its promises, and so does
-- the reply of each call that is done. The pool is one as its own laws have it; and its servers, the octets that came to
-- it, and the channels that failed, are those that the session was told of, in their order.
pub record IsPlayedOver
    (resolver : ResolverValue (List OutcomeValue)) (limits : PoolLimits) (seed : List ℕ) (events : List NetworkEvent)
    (session : NetworkValue)
    : Type 0 where
  pub past : List Happening
  pub pool_runs : Runs (no_servers resolver.options limits seed) past session.pool
  pub given : pool.given_in past ≡ given_in events
  pub told : List CallEventValue
  pub calls : Calls
  pub tells : AreTold (settings resolver) events told calls
  pub world : CallWorldValue
  pub happen : CallsHappen (settings resolver) (call_world_of resolver.client.cache resolver.hosts) told world
  pub cache_is : session.resolver.client.cache ≡ world.cache
  pub others_stay : KeepsAllButCache resolver session.resolver
  pub fed : AllByRecursion
      (IsFedFrom (no_servers resolver.options limits seed) (request_options_of resolver.options) past) told
  pub done : AreOfCalls told session.table
  pub as_calls : AreAsCalls calls session.table
  pub promised : resolver.client.cache.entries ≡ []
      → HappenAsPromised (settings resolver) resolver.client.cache resolver.hosts []
      (call_world_of resolver.client.cache resolver.hosts) told world

abbrev pub SessionsPlayCalls : Type 0
SessionsPlayCalls =
    (resolver : ResolverValue (List OutcomeValue)) (limits : PoolLimits) (seed : List ℕ) (events : List NetworkEvent)
    → (session : NetworkValue) → NetworkRuns (new_session resolver limits seed) events session
    → IsPlayedOver resolver limits seed events session
