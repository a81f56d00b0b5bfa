-- There is always a next step; what is held where nothing is left to be done; that it comes to that; and that it ends.
use Rattle.std.specs.Prelude.{◌≡◌, ◌≤◌, ◌<◌, ◌+◌, ◌^◌, ℕ, List, [], length, Option, None, Some}
use Rattle.std.specs.List.{AllByRecursion}
use Rattle.hickory_resolver_config.specs.ResolverConfig.{OptionsValue}
use Rattle.hickory_resolver_tries.specs.Stream.{first_of}
use Rattle.hickory_resolver_traffic.specs.Inbox.{octets_in}
use Rattle.hickory_resolver_traffic.specs.Tasks.{next_deadline}
use Rattle.hickory_resolver_pool.specs.Pool.{PoolState, no_servers, after_tick, Steps}
use Rattle.hickory_resolver_pool.specs.declared.limits.PoolLimits.{PoolLimits}
use Rattle.hickory_resolver_pool.specs.declared.pool.Action.{Action}
use Rattle.hickory_resolver_pool_theorems.specs.Runs.{Happening, Runs}

-- of what is held of a stream no message is whole: it is less than the longest message and its length
pub record IsLessThanOne (octets : List ℕ) : Type 0 where
  pub none_whole : first_of octets ≡ None
  pub bound : AllByRecursion (λ o. o < 256) octets → length octets < 2 ^ 16 + 1

-- no message, no channel that failed, no stream that is still to be read
pub record IsReadThrough (s : PoolState) : Type 0 where
  pub messages : s.traffic.inbox.messages ≡ []
  pub failures : s.traffic.inbox.failures ≡ []
  pub unread : s.traffic.inbox.unread ≡ []
  pub streams : (channel : ℕ) (octets : List ℕ) → octets_in channel s.traffic.inbox.streams ≡ Some octets
      → IsLessThanOne octets

-- Where a step finds nothing left to be done, all that came was read, but for less than a message of each stream.
abbrev pub AllIsReadAtRest : Type 0
AllIsReadAtRest =
    (options : OptionsValue) (limits : PoolLimits) (seed : List ℕ) (past : List Happening) (s after : PoolState)
    → Runs (no_servers options limits seed) past s → Steps s None after → IsReadThrough s

-- ---- there is always a next step

pub record HasStep (s : PoolState) : Type 0 where
  pub action : Option Action
  pub after : PoolState
  pub is : Steps s action after

-- So what is said of whatever the next step does is said of something.
abbrev pub AlwaysSteps : Type 0
AlwaysSteps = (s : PoolState) → HasStep s

-- ---- what is worked on is put away

-- No transaction is worked on; or, whatever the next step does, that comes to be so.
pub data IsPutAway : PoolState → Type 0 where
  none_in_hand : (s : PoolState) → s.current ≡ None → IsPutAway s
  goes_on : (s : PoolState) → ((r : Option Action) (after : PoolState) → Steps s r after → IsPutAway after)
      → IsPutAway s

-- Where steps are all that happens, the transaction that is worked on is put away, or over, after finitely many.
abbrev pub EachIsPutAway : Type 0
EachIsPutAway =
    (options : OptionsValue) (limits : PoolLimits) (seed : List ℕ) (past : List Happening) (s : PoolState)
    → Runs (no_servers options limits seed) past s → length past < 2 ^ 64 → IsPutAway s

-- ---- a pool comes to rest

-- Nothing is left to be done; or, whatever the next step does, that comes to be so.
pub data ComesToRest : PoolState → Type 0 where
  nothing_left : (s : PoolState) → Steps s None s → ComesToRest s
  goes_on : (s : PoolState) → ((r : Option Action) (after : PoolState) → Steps s r after → ComesToRest after)
      → ComesToRest s

-- Where steps are all that happens, nothing is left to be done after finitely many.
abbrev pub EachComesToRest : Type 0
EachComesToRest =
    (options : OptionsValue) (limits : PoolLimits) (seed : List ℕ) (past : List Happening) (s : PoolState)
    → Runs (no_servers options limits seed) past s → length past < 2 ^ 64 → ComesToRest s

-- ---- it ends

-- No transaction is left; or, whatever the next step does, that comes to be so; or nothing is left to be done, something
-- is waited for up to a moment, and after a tick at that moment or later that comes to be so.
pub data ComesToEnd : PoolState → Type 0 where
  none_left : (s : PoolState) → s.traffic.table.entries ≡ [] → s.current ≡ None → ComesToEnd s
  steps_on : (s : PoolState) → ((r : Option Action) (after : PoolState) → Steps s r after → ComesToEnd after)
      → ComesToEnd s
  waits : (s : PoolState) (due : ℕ) → Steps s None s → next_deadline s.traffic ≡ Some due
      → ((now : ℕ) → due ≤ now → ComesToEnd (after_tick now s)) → ComesToEnd s

-- Where steps are all that happens, and a tick at the next deadline, or later, where nothing is left to be done: after
-- finitely many of them no transaction is left.
abbrev pub EachComesToEnd : Type 0
EachComesToEnd =
    (options : OptionsValue) (limits : PoolLimits) (seed : List ℕ) (past : List Happening) (s : PoolState)
    → Runs (no_servers options limits seed) past s → length past < 2 ^ 64 → ComesToEnd s
