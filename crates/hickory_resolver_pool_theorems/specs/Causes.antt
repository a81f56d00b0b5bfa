-- Why nothing came of a transaction: each has its cause among what the transaction went through.
use Rattle.std.specs.Prelude.{◌≡◌, ◌≤◌, ◌⊎◌, ℕ, ◌+◌, false, List, ◌∷◌, ◌++◌, max, count_by, Some, IfSome}
use Rattle.std.specs.List.{AllByRecursion}
use Rattle.hickory_proto_core.specs.declared.dns_request.DnsRequestOptions.{DnsRequestOptions}
use Rattle.hickory_proto_core.specs.declared.query.Query.{Query}
use Rattle.hickory_resolver_askers.specs.Askers.{next_one}
use Rattle.hickory_resolver_config.specs.ResolverConfig.{OptionsValue}
use Rattle.hickory_resolver_servers.specs.Server.{ServerState}
use Rattle.hickory_resolver_tries.specs.Question.{question_of}
use Rattle.hickory_resolver_tries.specs.declared.pool_question.DnssecOptions.{DnssecOptions}
use Rattle.hickory_resolver_transactions.specs.Candidates.{is_due, is_waiting, waits_on}
use Rattle.hickory_resolver_transactions.specs.Laws.{TransactionEvent, channel_failed, time_passed, after_events, IsBounded}
use Rattle.hickory_resolver_transactions.specs.Transaction.{TransactionState, begun_with, picked}
use Rattle.hickory_resolver_transactions.specs.declared.candidate.Candidate.{Candidate}
use Rattle.hickory_resolver_transactions.specs.declared.settings.Settings.{Settings}
use Rattle.hickory_resolver_traffic.specs.Table.{CurrentState}
use Rattle.hickory_resolver_pool.specs.Laws.{is_asked}
use Rattle.hickory_resolver_pool.specs.Over.{OverValue}
use Rattle.hickory_resolver_pool.specs.Pool.{PoolState, no_servers, settings_for, list_of, asking_told, Steps}
use Rattle.hickory_resolver_pool.specs.declared.limits.PoolLimits.{PoolLimits}
use Rattle.hickory_resolver_pool.specs.declared.over.PoolOutcome.TheVariants.{Unreachable, Timeout}
use Rattle.hickory_resolver_pool.specs.declared.pool.Action.TheVariants.{Over}
use Rattle.hickory_resolver_pool.specs.declared.pool.Asked.TheVariants as asked
use Rattle.hickory_resolver_pool_theorems.specs.Runs.{Happening, came, latest_told, Runs}
use Rattle.hickory_resolver_pool_theorems.specs.Timeouts.{OnlyTimePassed}

-- from its servers on, with a round at least, these events made the transaction what it is
pub record IsMade (t : TransactionState) : Type 0 where
  pub settings : Settings
  pub servers : List ServerState
  pub events : List TransactionEvent
  pub made : t ≡ after_events (begun_with settings servers) events
  pub rounds : 1 ≤ settings.rounds

-- It began when a question was asked that was given the number of the next transaction; and its settings are those that
-- the options of the pool and of that request say.
pub record HasBegun (options : OptionsValue) (past : List Happening) (transaction : ℕ) (settings : Settings)
    : Type 0 where
  pub later : List Happening
  pub earlier : List Happening
  pub pool : PoolState
  pub group : ℕ
  pub query : Query
  pub request : DnsRequestOptions
  pub dnssec : DnssecOptions
  pub now : ℕ
  pub happened : past ≡ later ++ came pool (is_asked group query request dnssec now) ∷ earlier
  pub number : pool.traffic.askers.next_transaction ≡ transaction
  pub given : asking_told (list_of group pool.traffic) (question_of query request dnssec) pool
      ≡ asked.Asker (next_one pool.traffic.askers)
  pub settings_are : settings ≡ settings_for options request

-- where time passed, it did so up to the latest moment that was told, or up to one before it
abbrev pub PassesToldTime : ℕ → TransactionEvent → Type 0
PassesToldTime latest (time_passed now) = now ≤ latest
PassesToldTime latest other = Unit {0}

-- time passed up to a moment at which a try of it was to have been answered, or a channel to have come free for it
pub record HasRunOut (start : TransactionState) (events : List TransactionEvent) : Type 0 where
  pub before : List TransactionEvent
  pub later : List TransactionEvent
  pub now : ℕ
  pub server : Candidate
  pub happened : events ≡ before ++ time_passed now ∷ later
  pub due : picked (is_due now) (after_events start before) ≡ Some server

-- a channel failed on which a try of it waited
pub record HasFailed (start : TransactionState) (events : List TransactionEvent) : Type 0 where
  pub before : List TransactionEvent
  pub later : List TransactionEvent
  pub channel : ℕ
  pub server : Candidate
  pub happened : events ≡ before ++ channel_failed channel ∷ later
  pub waited : picked (waits_on channel) (after_events start before) ≡ Some server

-- ---- a timeout, and that no server was reached

pub record IsTimeout (options : OptionsValue) (past : List Happening) (s : PoolState) (o : OverValue) : Type 0 where
  pub current : CurrentState
  pub works : s.current ≡ Some current
  pub number : current.number ≡ o.transaction
  pub made : IsMade current.entry.flying.flight.transaction
  pub begun : HasBegun options past o.transaction made.settings
  pub told : AllByRecursion (PassesToldTime (latest_told past)) made.events
  pub ran_out : HasRunOut (begun_with made.settings made.servers) made.events
  pub alone : OnlyTimePassed (begun_with made.settings made.servers) made.events

-- a server without a port, which cannot be asked
abbrev pub HasNoPort : Candidate → Type 0
HasNoPort c = (c.has_udp ≡ false) × (c.has_tcp ≡ false)

-- a channel failed, or there is no server that can be asked
pub record IsUnreachable (options : OptionsValue) (past : List Happening) (s : PoolState) (o : OverValue)
    : Type 0 where
  pub current : CurrentState
  pub works : s.current ≡ Some current
  pub number : current.number ≡ o.transaction
  pub made : IsMade current.entry.flying.flight.transaction
  pub begun : HasBegun options past o.transaction made.settings
  pub told : AllByRecursion (PassesToldTime (latest_told past)) made.events
  pub failed : HasFailed (begun_with made.settings made.servers) made.events
      ⊎ AllByRecursion HasNoPort current.entry.flying.flight.transaction.candidates

abbrev pub TimeoutsRanOut : Type 0
TimeoutsRanOut =
    (options : OptionsValue) (limits : PoolLimits) (seed : List ℕ) (past : List Happening) (s after : PoolState)
    → (o : OverValue) → Runs (no_servers options limits seed) past s → Steps s (Some (Over o)) after
    → o.outcome ≡ Timeout → IsTimeout options past s o

abbrev pub UnreachableOnesFailed : Type 0
UnreachableOnesFailed =
    (options : OptionsValue) (limits : PoolLimits) (seed : List ℕ) (past : List Happening) (s after : PoolState)
    → (o : OverValue) → Runs (no_servers options limits seed) past s → Steps s (Some (Over o)) after
    → o.outcome ≡ Unreachable → IsUnreachable options past s o

-- ---- each transaction is bounded

-- Rounds, messages to a server in a round by one transport, tries that wait at once, and late tries are within their
-- bounds, and these are those of the options: attempts are retries. There are three rounds at most (RFC 9520, section
-- 3.1).
pub record IsBoundedBy (options : OptionsValue) (t : TransactionState) : Type 0 where
  pub bounded : IsBounded t
  pub attempts : t.round ≤ options.attempts + 1
  pub rounds : t.round ≤ 3
  pub waiting : count_by (λ c. is_waiting c.progress) t.candidates ≤ max options.num_concurrent_reqs 1

-- each transaction that there is stays within its bounds
pub record HasBoundedTransactions (options : OptionsValue) (s : PoolState) : Type 0 where
  pub table : AllByRecursion (λ p. IsBoundedBy options p.1.flying.flight.transaction) s.traffic.table.entries
  pub worked : IfSome s.current (λ c. IsBoundedBy options c.entry.flying.flight.transaction)

abbrev pub TransactionsStayBounded : Type 0
TransactionsStayBounded =
    (options : OptionsValue) (limits : PoolLimits) (seed : List ℕ) (past : List Happening) (s : PoolState)
    → Runs (no_servers options limits seed) past s → HasBoundedTransactions options s
