-- It waits only for what is still to come.
use Rattle.std.specs.Prelude.{◌≡◌, ◌<◌, ℕ, None, Some}
use Rattle.hickory_resolver_traffic.specs.Tasks.{next_deadline}
use Rattle.hickory_resolver_pool.specs.Pool.{PoolState, Steps}

-- Where a step finds nothing left to be done it changes nothing; no transaction is worked on, and nothing goes out; and
-- what the pool waits for, the earliest first, lies behind the latest moment that it was told. So after a tick at that
-- moment or later there is something to be done.
pub record IsAtRest (s after : PoolState) : Type 0 where
  pub unchanged : after ≡ s
  pub works_on_none : s.current ≡ None
  pub sends_none : s.traffic.outgoing ≡ None
  pub ahead : (due : ℕ) → next_deadline s.traffic ≡ Some due → s.traffic.clock < due

abbrev pub RestsUntilDue : Type 0
RestsUntilDue = (s after : PoolState) → Steps s None after → IsAtRest s after
