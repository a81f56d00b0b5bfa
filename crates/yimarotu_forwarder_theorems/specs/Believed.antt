-- Each reply that a forwarder makes an answer of is octets that came from a server and were believed.
use Rattle.std.specs.Prelude.{◌≡◌, ℕ, List, Some}
use Rattle.hickory_resolver_config.specs.ResolverConfig.{OptionsValue as PoolOptions}
use Rattle.hickory_resolver_flights.specs.Flights.{KeptValue}
use Rattle.hickory_resolver_pool.specs.Over.{OverValue}
use Rattle.hickory_resolver_pool.specs.Pool.{PoolState, no_servers}
use Rattle.hickory_resolver_pool.specs.declared.limits.PoolLimits.{PoolLimits}
use Rattle.hickory_resolver_pool_theorems.specs.MadeUp.{IsBelievedReply}
use Rattle.hickory_resolver_pool_theorems.specs.Runs.{WasOver}
use Rattle.hickory_resolver_pool_theorems.specs.Runs as pool
use Rattle.second_chance_cache.specs.declared.bounds.CacheBounds.{CacheBounds}
use Rattle.yimarotu_forwarder.specs.Forwarders.{ForwarderValue, new_forwarder}
use Rattle.yimarotu_forwarder.specs.Local.{LocalValue}
use Rattle.yimarotu_forwarder.specs.Options.{OptionsValue}
use Rattle.yimarotu_forwarder_theorems.specs.Lookups.{ToldReply, WasTold}
use Rattle.yimarotu_forwarder_theorems.specs.Runs.{Happening, Runs, given_in}

-- Among this, which happened to the pool, it said of a transaction for this question that it is over, with a reply that
-- spells this message: octets that came on the channel on which the question was sent, and were believed as its reply.
pub record WasBelieved (start : PoolState) (past : List pool.Happening) (r : ToldReply) : Type 0 where
  pub over : OverValue
  pub was_over : WasOver start past over
  pub question : over.question ≡ r.question
  pub reply : KeptValue
  pub believed : IsBelievedReply was_over.earlier over.transaction over.question over.outcome reply
  pub spells : reply.message ≡ Some r.message

-- The pool of a forwarder is one as the pool's own laws have it. The servers of its groups, the octets that came to it,
-- and the channels that failed, are those that the forwarder was told of, in their order; and each reply that the pool
-- told was believed.
pub record StandsOnPool (start : PoolState) (past : List Happening) (s : ForwarderValue) : Type 0 where
  pub pool_past : List pool.Happening
  pub runs : pool.Runs start pool_past s.pool
  pub given : pool.given_in pool_past ≡ given_in past
  pub believed : (r : ToldReply) → WasTold past r → WasBelieved start pool_past r

abbrev pub RepliesWereBelieved : Type 0
RepliesWereBelieved =
    (options : OptionsValue) (local : LocalValue) (cache failures : CacheBounds)
    → (pool_options : PoolOptions) (limits : PoolLimits) (seed : List ℕ) (past : List Happening) (s : ForwarderValue)
    → Runs (new_forwarder options local cache failures (no_servers pool_options limits seed)) past s
    → StandsOnPool (no_servers pool_options limits seed) past s
