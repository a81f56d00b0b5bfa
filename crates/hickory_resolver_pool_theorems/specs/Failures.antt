-- What is told where there is no answer.
use Rattle.std.specs.Prelude.{◌≡◌, ◌≤◌, ℕ, true, false, List, ◌∷◌, ◌++◌, length, unwrap_or, Option, Some}
use Rattle.hickory_resolver_askers.specs.Askers.{WaitingValue, first_waiting}
use Rattle.hickory_resolver_config.specs.ResolverConfig.{OptionsValue}
use Rattle.hickory_resolver_transactions.specs.Transaction.{is_idle, may_go_on}
use Rattle.hickory_resolver_transactions.specs.declared.outcome.Outcome.TheVariants as noted
use Rattle.hickory_resolver_traffic.specs.Table.{CurrentState}
use Rattle.hickory_resolver_pool.specs.Over.{OverValue, told_as}
use Rattle.hickory_resolver_pool.specs.Pool.{PoolState, no_servers, Steps}
use Rattle.hickory_resolver_pool.specs.declared.limits.PoolLimits.{PoolLimits}
use Rattle.hickory_resolver_pool.specs.declared.over.PoolOutcome.{PoolOutcome}
use Rattle.hickory_resolver_pool.specs.declared.over.PoolOutcome.TheVariants.{Response, Cut, Code, Unreachable, Timeout, Overloaded}
use Rattle.hickory_resolver_pool.specs.declared.pool.Action.{Action}
use Rattle.hickory_resolver_pool.specs.declared.pool.Action.TheVariants.{Over}
use Rattle.hickory_resolver_pool_theorems.specs.Runs.{Happening, did, Runs}

-- ---- there was no place

-- A step of the pool was made while this transaction was the first of those that wait for a place, the moment up to
-- which it waits had passed, and there was no place: as many were in flight as the limits say.
pub record WaitedInVain (limits : PoolLimits) (past : List Happening) (transaction : ℕ) : Type 0 where
  pub later : List Happening
  pub earlier : List Happening
  pub pool : PoolState
  pub action : Option Action
  pub waiting : WaitingValue
  pub happened : past ≡ later ++ did pool action ∷ earlier
  pub first : first_waiting pool.traffic.askers ≡ Some (transaction, waiting)
  pub late : waiting.until ≤ pool.traffic.clock
  pub no_place : length pool.traffic.askers.in_flight ≡ limits.transactions

abbrev pub OverloadedOnlyWithoutPlace : Type 0
OverloadedOnlyWithoutPlace =
    (options : OptionsValue) (limits : PoolLimits) (seed : List ℕ) (past : List Happening) (s after : PoolState)
    → (o : OverValue) → Runs (no_servers options limits seed) past s → Steps s (Some (Over o)) after
    → o.outcome ≡ Overloaded → WaitedInVain limits past o.transaction

-- ---- nothing came of it

-- The transaction is the one that is worked on: it waits for no reply and no channel, no round is left to it, or no
-- server, and what is told is the best that was noted; where nothing was noted, that no server was reached.
pub record CameToNothing (s : PoolState) (o : OverValue) : Type 0 where
  pub current : CurrentState
  pub works : s.current ≡ Some current
  pub number : current.number ≡ o.transaction
  pub waits_for_none : is_idle current.entry.flying.flight.transaction ≡ true
  pub may_not_go_on : may_go_on current.entry.flying.flight.transaction ≡ false
  pub told : o.outcome ≡ told_as (unwrap_or current.entry.flying.flight.transaction.noted noted.Unreachable)

-- an outcome that is no answer
abbrev pub IsFailure : PoolOutcome → Type 0
IsFailure Response = ⊥
IsFailure Cut = Unit {0}
IsFailure Code = Unit {0}
IsFailure Unreachable = Unit {0}
IsFailure Timeout = Unit {0}
IsFailure Overloaded = ⊥

-- A timeout, that no server was reached, a code, and that a reply was cut, are told only where nothing is left to wait
-- for.
abbrev pub FailuresAreToldLast : Type 0
FailuresAreToldLast =
    (s after : PoolState) (o : OverValue) → Steps s (Some (Over o)) after → IsFailure o.outcome → CameToNothing s o
