-- A pool as a handle of the core, from octets to octets.
use Rattle.std.specs.Prelude.{◌≡◌, ◌⊎◌, ℕ, true, false, List, ◌∷◌, ◌++◌, Contains, Some, Ok, Err}
use Rattle.std.specs.List.{AllByRecursion}
use Rattle.hickory_proto_core.specs.Handles.{OutcomeValue, HandleStep}
use Rattle.hickory_proto_core.specs.Messages.{MessageValue}
use Rattle.hickory_proto_core.specs.declared.dns_request.DnsRequest.{DnsRequest}
use Rattle.hickory_proto_core.specs.declared.dns_request.DnsRequestOptions.{DnsRequestOptions}
use Rattle.hickory_proto_core.specs.declared.net_error.DnsError.TheVariants.{NoRecordsFound}
use Rattle.hickory_proto_core.specs.declared.net_error.NetError.TheVariants as error
use Rattle.hickory_proto_core.specs.declared.recorded.Exchange.{Exchange}
use Rattle.hickory_proto_wire.specs.Messages.{message_of}
use Rattle.hickory_proto_wire.specs.declared.wire_message.WireMessage.{WireMessage}
use Rattle.hickory_resolver_askers.specs.declared.asker.Asker.{Asker}
use Rattle.hickory_resolver_config.specs.ResolverConfig.{OptionsValue}
use Rattle.hickory_resolver_flights.specs.Flights.{KeptValue}
use Rattle.hickory_resolver_model.specs.Run.{Settings, RequestValue, StepValue, LedRun}
use Rattle.hickory_resolver_model.specs.Cache.{CacheValue}
use Rattle.hickory_resolver_theorems.specs.Promises.{PromisedRun}
use Rattle.hickory_resolver_tries.specs.GivenBack.{given_back}
use Rattle.hickory_resolver_tries.specs.Heads.{head_of}
use Rattle.hickory_resolver_tries.specs.Outcome.{is_truncated}
use Rattle.hickory_resolver_tries.specs.Question.{question_of, question_eq}
use Rattle.hickory_resolver_tries.specs.declared.pool_question.DnssecOptions.{DnssecOptions}
use Rattle.hickory_resolver_tries.specs.declared.pool_question.PoolQuestion.{PoolQuestion}
use Rattle.hickory_resolver_pool.specs.Laws.{PoolEvent, is_asked, after_event}
use Rattle.hickory_resolver_pool.specs.Over.{OverValue, IsCoreOutcome}
use Rattle.hickory_resolver_pool.specs.Pool.{PoolState, no_servers, list_of, asking_told, Steps}
use Rattle.hickory_resolver_pool.specs.declared.limits.PoolLimits.{PoolLimits}
use Rattle.hickory_resolver_pool.specs.declared.pool.Action.TheVariants.{Over}
use Rattle.hickory_resolver_pool.specs.declared.pool.Asked.TheVariants as asked
use Rattle.hickory_resolver_pool_theorems.specs.MadeUp.{IsBelievedReply}
use Rattle.hickory_resolver_pool_theorems.specs.Runs.{Happening, came, did, Runs}

-- ---- what the core is told

-- A response that the core is told is what octets spell that came for the question and were believed: the whole
-- message, each of its records as it was received, with the letters that were asked.
pub record IsReadOfOctets (past : List Happening) (o : OverValue) (m : MessageValue) : Type 0 where
  pub reply : KeptValue
  pub believed : IsBelievedReply past o.transaction o.question o.outcome reply
  pub read : WireMessage
  pub spelled : message_of reply.octets ≡ Ok read
  pub whole : is_truncated (head_of reply.octets) ≡ false
  pub told : m ≡ given_back o.question.query.name read.message

abbrev pub CoreIsToldWhatCame : Type 0
CoreIsToldWhatCame =
    (options : OptionsValue) (limits : PoolLimits) (seed : List ℕ) (past : List Happening) (s after : PoolState)
    → (o : OverValue) (m : MessageValue) → Runs (no_servers options limits seed) past s
    → Steps s (Some (Over o)) after → IsCoreOutcome o (Ok m) → IsReadOfOctets past o m

-- ---- a pool as a handle: a question is asked of it, and answered once its transaction is over

-- a pool, and what happened to it
pub record PoolHandle : Type 0 where
  pub past : List Happening
  pub pool : PoolState

abbrev pub asking : ℕ → DnssecOptions → DnsRequest → ℕ → PoolEvent
asking group dnssec request now = is_asked group request.query request.options dnssec now

-- One asks, and waits, whatever happens meanwhile, until the pool says of its transaction that it is over. What it is
-- told is told to the core, unless there is no memory to copy it.
pub record IsTold
    (group : ℕ) (dnssec : DnssecOptions) (before : PoolHandle) (request : DnsRequest) (outcome : OutcomeValue)
    (after : PoolHandle)
    : Type 0 where
  pub now : ℕ
  pub asker : Asker
  pub waited : List Happening
  pub last : PoolState
  pub over : OverValue
  pub asks :
      asking_told (list_of group before.pool.traffic) (question_of request.query request.options dnssec) before.pool
      ≡ asked.Asker asker
  pub runs : Runs (after_event before.pool (asking group dnssec request now)) waited last
  pub ends : Steps last (Some (Over over)) after.pool
  pub transaction : over.transaction ≡ asker.transaction
  pub is_asker : Contains over.askers asker.number
  pub told : (outcome ≡ Err error.OutOfMemory) ⊎ IsCoreOutcome over outcome
  pub past_is : after.past
      ≡ did last (Some (Over over)) ∷ waited ++ came before.pool (asking group dnssec request now) ∷ before.past

-- an error that says that there are no records
abbrev pub IsDenial : OutcomeValue → Type 0
IsDenial (Err (error.Dns (NoRecordsFound n))) = Unit {0}
IsDenial other = ⊥

-- An error is answered, as where there is no place or no server, or where nobody waits on; whatever happens meanwhile.
-- It denies nothing: that there are no records is said by a response.
pub record IsFailed (before : PoolHandle) (outcome : OutcomeValue) (after : PoolHandle) : Type 0 where
  pub fails : (m : MessageValue) → outcome ≡ Ok m → ⊥
  pub denies_nothing : IsDenial outcome → ⊥
  pub waited : List Happening
  pub runs : Runs before.pool waited after.pool
  pub past_is : after.past ≡ waited ++ before.past

-- of the servers of a group
abbrev pub PoolStep : ℕ → DnssecOptions → HandleStep PoolHandle
PoolStep group dnssec before request outcome after =
    IsTold group dnssec before request outcome after ⊎ IsFailed before outcome after

-- ---- from octets to octets

-- this response is what octets spell that came for an equal question, case of the name aside, and were believed
pub record CameFor (past : List Happening) (question : PoolQuestion) (m : MessageValue) : Type 0 where
  pub over : OverValue
  pub read : IsReadOfOctets past over m
  pub same : question_eq question over.question ≡ true

-- where a response came back, it came so for what was asked; and that there are no records is said by no error
pub record CameAsOctets (past : List Happening) (options : DnsRequestOptions) (dnssec : DnssecOptions) (x : Exchange)
    : Type 0 where
  pub response : (m : MessageValue) → x.outcome ≡ Ok m → CameFor past (question_of x.query options dnssec) m
  pub denies_nothing : IsDenial x.outcome → ⊥

abbrev pub IsPoolOf : OptionsValue → PoolLimits → List ℕ → PoolHandle → Type 0
IsPoolOf options limits seed h = Runs (no_servers options limits seed) h.past h.pool

-- A run of a resolver over a pool keeps all that is promised of runs, and each response of its exchanges, also one that
-- says that there are no records, is what octets spell that came for its question: so of what it answers nothing outlives
-- what was received on the wire.
abbrev pub FromOctetsToOctets : Type 0
FromOctetsToOctets =
    (options : OptionsValue) (limits : PoolLimits) (seed : List ℕ) (group : ℕ) (dnssec : DnssecOptions)
    → (s : Settings) (before after : PoolHandle) (requests : List RequestValue) (steps : List StepValue)
    → (exchanges : List Exchange) (cache : CacheValue)
    → IsPoolOf options limits seed before
    → LedRun (PoolStep group dnssec) s before requests steps exchanges after cache
    → PromisedRun (PoolStep group dnssec) s before requests steps exchanges after cache
    × AllByRecursion (CameAsOctets after.past s.request_options dnssec) exchanges
