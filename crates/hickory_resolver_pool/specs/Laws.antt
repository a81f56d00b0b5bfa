-- What holds of a pool after every list of events and steps, in any order.
use Rattle.std.specs.Prelude.{ℕ, List, Option}
use Rattle.hickory_proto_core.specs.declared.dns_request.DnsRequestOptions.{DnsRequestOptions}
use Rattle.hickory_proto_core.specs.declared.query.Query.{Query}
use Rattle.hickory_resolver_askers.specs.Laws as askers
use Rattle.hickory_resolver_askers.specs.declared.asker.Asker.{Asker}
use Rattle.hickory_resolver_channels.specs.Laws as channels
use Rattle.hickory_resolver_config.specs.ResolverConfig.{OptionsValue}
use Rattle.hickory_resolver_tries.specs.Question.{question_of}
use Rattle.hickory_resolver_tries.specs.declared.pool_question.DnssecOptions.{DnssecOptions}
use Rattle.hickory_resolver_traffic.specs.declared.inbox.ChannelFailure.{ChannelFailure}
use Rattle.hickory_resolver_traffic.specs.declared.traffic.TrafficLimits.{TrafficLimits}
use Rattle.hickory_resolver_pool.specs.Pool.{PoolState, no_servers, limits_of, settings_for, list_of, after_tick, after_servers, after_octets, after_failure, after_forgetting, after_asking, Steps}
use Rattle.hickory_resolver_pool.specs.Servers.{PoolServerValue}
use Rattle.hickory_resolver_pool.specs.declared.limits.PoolLimits.{PoolLimits}
use Rattle.hickory_resolver_pool.specs.declared.pool.Action.{Action}

pub data PoolEvent : Type 0 where
  time_passes : ℕ → PoolEvent
  group_has : ℕ → List PoolServerValue → PoolEvent
  is_asked : ℕ → Query → DnsRequestOptions → DnssecOptions → ℕ → PoolEvent
  octets_come : ℕ → List ℕ → ℕ → PoolEvent
  channel_fails : ChannelFailure → ℕ → PoolEvent
  is_forgotten : Asker → PoolEvent

abbrev pub after_event : PoolState → PoolEvent → PoolState
after_event s (time_passes now) = after_tick now s
after_event s (group_has group servers) = after_servers group servers s
after_event s (is_asked group query options dnssec now) =
    after_asking (list_of group s.traffic) (question_of query options dnssec) (settings_for s.options options) now s
after_event s (octets_come channel octets now) = after_octets channel octets now s
after_event s (channel_fails f now) = after_failure f now s
after_event s (is_forgotten a) = after_forgetting a s

-- reached from a pool by events and steps, in any order
pub data Reached (start : PoolState) : PoolState → Type 0 where
  at_first : Reached start start
  by_event : (s : PoolState) (e : PoolEvent) → Reached start s → Reached start (after_event s e)
  by_step : (s after : PoolState) (r : Option Action) → Steps s r after → Reached start s → Reached start after

-- ---- bounded

-- Channels, tries on each of them, transactions in flight and those that wait are within the limits, and the number that
-- a channel or a transaction is given next is greater than that of each that there is.
pub record IsBounded (limits : TrafficLimits) (s : PoolState) : Type 0 where
  pub channels : channels.IsWithinLimits limits.channels s.traffic.shared.channels
  pub askers : askers.IsWithinLimits limits.askers s.traffic.askers

abbrev pub StaysBounded : Type 0
StaysBounded =
    (options : OptionsValue) (limits : PoolLimits) (seed : List ℕ) (s : PoolState)
    → Reached (no_servers options limits seed) s → IsBounded (limits_of limits options) s
