-- What happened to a pool, one thing after another.
use Rattle.std.specs.Prelude.{◌≡◌, ℕ, max, List, [], ◌∷◌, ◌++◌, Option, Some}
use Rattle.hickory_resolver_pool.specs.Laws.{PoolEvent, time_passes, group_has, is_asked, octets_come, channel_fails, after_event, Reached}
use Rattle.hickory_resolver_pool.specs.Over.{OverValue}
use Rattle.hickory_resolver_pool.specs.Pool.{PoolState, Steps}
use Rattle.hickory_resolver_pool.specs.declared.pool.Action.{Action}
use Rattle.hickory_resolver_pool.specs.declared.pool.Action.TheVariants.{Over}

-- to the pool as it stood then: an event, or a step and what the program had to do for it
pub data Happening : Type 0 where
  came : PoolState → PoolEvent → Happening
  did : PoolState → Option Action → Happening

-- The latest is the first of these. Events and steps come in any order.
pub data Runs (start : PoolState) : List Happening → PoolState → Type 0 where
  at_first : Runs start [] start
  by_event : (past : List Happening) (s : PoolState) (e : PoolEvent) → Runs start past s
      → Runs start (came s e ∷ past) (after_event s e)
  by_step : (past : List Happening) (s after : PoolState) (r : Option Action) → Steps s r after → Runs start past s
      → Runs start (did s r ∷ past) after

-- ---- what a pool was given

-- an event is that octets come, that a channel fails, or that a group has servers; or it is none of these
abbrev pub given_by : PoolEvent → List PoolEvent
given_by (octets_come channel octets now) = octets_come channel octets now ∷ []
given_by (channel_fails failure now) = channel_fails failure now ∷ []
given_by (group_has group servers) = group_has group servers ∷ []
given_by other = []

-- the octets that came to a pool, the channels that failed, and the servers of its groups, the latest first
abbrev pub given_in : List Happening → List PoolEvent
given_in [] = []
given_in (came s e ∷ past) = given_by e ++ given_in past
given_in (did s r ∷ past) = given_in past

-- ---- moments

-- the moment that an event tells, which is nought where it tells none
abbrev pub moment_told : PoolEvent → ℕ
moment_told (time_passes now) = now
moment_told (is_asked group query options dnssec now) = now
moment_told (octets_come channel octets now) = now
moment_told (channel_fails failure now) = now
moment_told other = 0

-- the latest of them
abbrev pub latest_told : List Happening → ℕ
latest_told [] = 0
latest_told (came s e ∷ past) = max (moment_told e) (latest_told past)
latest_told (did s r ∷ past) = latest_told past

-- ---- transactions that are over

-- among what happened to a pool it said of a transaction that it is over
pub record WasOver (first : PoolState) (past : List Happening) (over : OverValue) : Type 0 where
  pub later : List Happening
  pub earlier : List Happening
  pub before : PoolState
  pub after : PoolState
  pub happened : past ≡ later ++ did before (Some (Over over)) ∷ earlier
  pub runs : Runs first earlier before
  pub ends : Steps before (Some (Over over)) after

-- ---- what is reached

-- what is reached from a pool by events and steps is what happens to it, and the other way round
pub record IsReachedByRuns (start s : PoolState) : Type 0 where
  pub happens : Reached start s → (past : List Happening) × Runs start past s
  pub reached : (past : List Happening) → Runs start past s → Reached start s

abbrev pub ReachedIsWhatHappens : Type 0
ReachedIsWhatHappens = (start s : PoolState) → IsReachedByRuns start s
