-- Channels are used while they are open, as the actions say that the program had to do.
use Rattle.std.specs.Prelude.{◌≡◌, ◌<◌, ◌^◌, ℕ, Bool, true, false, ◌==◌, List, [], ◌∷◌, length, Some, if◌then◌else◌}
use Rattle.hickory_resolver_config.specs.ResolverConfig.{OptionsValue}
use Rattle.hickory_resolver_traffic.specs.Openings.{SentValue}
use Rattle.hickory_resolver_pool.specs.Pool.{PoolState, no_servers, Steps}
use Rattle.hickory_resolver_pool.specs.declared.limits.PoolLimits.{PoolLimits}
use Rattle.hickory_resolver_pool.specs.declared.pool.Action.TheVariants.{Open, Send, Close}
use Rattle.hickory_resolver_pool_theorems.specs.Runs.{Happening, did, Runs}

-- the latest action on a channel: it was opened, and not closed since
abbrev pub is_open : ℕ → List Happening → Bool
is_open channel [] = false
is_open channel (did s (Some (Open o)) ∷ past) = if o.channel == channel then true else is_open channel past
is_open channel (did s (Some (Close closed)) ∷ past) = if closed == channel then false else is_open channel past
is_open channel (other ∷ past) = is_open channel past

-- A message is sent on a channel that is open, and a channel is closed that is open.
pub record UsesOpenOnes (past : List Happening) (s : PoolState) : Type 0 where
  pub sends : (after : PoolState) (o : SentValue) → Steps s (Some (Send o)) after → is_open o.channel past ≡ true
  pub closes : (after : PoolState) (channel : ℕ) → Steps s (Some (Close channel)) after → is_open channel past ≡ true

-- (How many ask the servers of a list is counted up to the greatest number of 64 bits.)
abbrev pub ChannelsAreUsedOpen : Type 0
ChannelsAreUsedOpen =
    (options : OptionsValue) (limits : PoolLimits) (seed : List ℕ) (past : List Happening) (s : PoolState)
    → Runs (no_servers options limits seed) past s → length past < 2 ^ 64 → UsesOpenOnes past s
