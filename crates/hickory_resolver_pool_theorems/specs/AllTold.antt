-- Nobody who asks is lost, and each is told.
use Rattle.std.specs.Prelude.{◌≡◌, ◌≤◌, ◌<◌, ◌^◌, ◌⊎◌, ℕ, List, ◌∷◌, length, Contains, Option, None, Some}
use Rattle.hickory_resolver_config.specs.ResolverConfig.{OptionsValue}
use Rattle.hickory_resolver_traffic.specs.Table.{EntryState}
use Rattle.hickory_resolver_traffic.specs.Tasks.{next_deadline}
use Rattle.hickory_resolver_pool.specs.Laws.{time_passes}
use Rattle.hickory_resolver_pool.specs.Over.{OverValue}
use Rattle.hickory_resolver_pool.specs.Pool.{PoolState, no_servers, after_tick, Steps}
use Rattle.hickory_resolver_pool.specs.declared.limits.PoolLimits.{PoolLimits}
use Rattle.hickory_resolver_pool.specs.declared.pool.Action.{Action}
use Rattle.hickory_resolver_pool_theorems.specs.Agreement.{Has}
use Rattle.hickory_resolver_pool_theorems.specs.Runs.{Happening, came, did, Runs, WasOver}
use Rattle.hickory_resolver_pool_theorems.specs.Tellings.{asking_in}

-- ---- nobody is lost

-- among what happened to a pool it said that the transaction of this number is over, to this asker among others
pub record WasTold (first : PoolState) (past : List Happening) (transaction asker : ℕ) : Type 0 where
  pub over : OverValue
  pub was_over : WasOver first past over
  pub number : over.transaction ≡ transaction
  pub told : Contains over.askers asker

-- Who was given an asker of a transaction, and did not forget it since, was told that it is over; or the transaction is
-- there still, in the table or in hand. (One that waits for a place stands in the table too.)
abbrev pub NoAskerIsLost : Type 0
NoAskerIsLost =
    (options : OptionsValue) (limits : PoolLimits) (seed : List ℕ) (past : List Happening) (s : PoolState)
    → (n asker : ℕ) → Runs (no_servers options limits seed) past s → Contains (asking_in n past) asker
    → ((e : EntryState) × Has s n e) ⊎ WasTold (no_servers options limits seed) past n asker

-- ---- each is told

-- all who were given an asker, and did not forget it since, were told
abbrev pub AllWereTold : PoolState → List Happening → Type 0
AllWereTold first past = (n asker : ℕ) → Contains (asking_in n past) asker → WasTold first past n asker

-- All were told; or, whatever the next step does, that comes to be so; or nothing is left to be done, something is
-- waited for up to a moment, and after a tick at that moment or later that comes to be so.
pub data ComesToTellAll (first : PoolState) : List Happening → PoolState → Type 0 where
  all_told : (past : List Happening) (s : PoolState) → AllWereTold first past → ComesToTellAll first past s
  steps_on : (past : List Happening) (s : PoolState)
      → ((r : Option Action) (after : PoolState) → Steps s r after → ComesToTellAll first (did s r ∷ past) after)
      → ComesToTellAll first past s
  waits : (past : List Happening) (s : PoolState) (due : ℕ) → Steps s None s → next_deadline s.traffic ≡ Some due
      → ((now : ℕ) → due ≤ now → ComesToTellAll first (came s (time_passes now) ∷ past) (after_tick now s))
      → ComesToTellAll first past s

-- Where steps are all that happens, and a tick at the next deadline, or later, where nothing is left to be done: after
-- finitely many of them all were told.
abbrev pub EachAskerIsTold : Type 0
EachAskerIsTold =
    (options : OptionsValue) (limits : PoolLimits) (seed : List ℕ) (past : List Happening) (s : PoolState)
    → Runs (no_servers options limits seed) past s → length past < 2 ^ 64
    → ComesToTellAll (no_servers options limits seed) past s
