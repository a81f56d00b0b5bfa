-- What happened to a session with a network, one thing after another.
use Rattle.std.specs.Prelude.{◌≡◌, ℕ, Bool, List, [], ◌∷◌, ◌++◌, Option, Result}
use Rattle.hickory_proto_core.specs.codes.record_type.RecordType.{RecordType}
use Rattle.hickory_resolver_pool.specs.Laws.{PoolEvent}
use Rattle.hickory_resolver_pool.specs.Laws as pool
use Rattle.hickory_resolver_pool.specs.Pool.{after_failure, after_octets, after_servers, after_tick}
use Rattle.hickory_resolver_pool.specs.Servers.{PoolServerValue}
use Rattle.hickory_resolver_traffic.specs.declared.inbox.ChannelFailure.{ChannelFailure}
use Rattle.yimarotu_session.specs.NetworkSessions.{BeginsHost, BeginsName, Cancels, ClearsName, NetworkValue, cleared, with_pool}
use Rattle.yimarotu_session.specs.NetworkSteps.{SessionSteps}
use Rattle.yimarotu_session.specs.declared.network_session.NetworkAction.{NetworkAction}
use Rattle.yimarotu_session.specs.declared.session_error.SessionError.{SessionError}

-- an event with what it came to, or a step and what the program had to do for it
pub data NetworkEvent : Type 0 where
  is_started : ℕ → List ℕ → RecordType → ℕ → Result (Unit {0}) SessionError → NetworkEvent
  host_is_started : ℕ → List ℕ → ℕ → Result (Unit {0}) SessionError → NetworkEvent
  is_cancelled : ℕ → ℕ → Bool → NetworkEvent
  servers_are : List PoolServerValue → NetworkEvent
  octets_come : ℕ → List ℕ → ℕ → NetworkEvent
  channel_fails : ChannelFailure → ℕ → NetworkEvent
  time_passes : ℕ → NetworkEvent
  name_is_cleared : List ℕ → RecordType → Result (Unit {0}) SessionError → NetworkEvent
  all_is_cleared : NetworkEvent
  is_stepped : Option NetworkAction → NetworkEvent

abbrev pub Happens : NetworkEvent → NetworkValue → NetworkValue → Type 0
Happens (is_started number name t now result) before after = BeginsName number name t now before result after
Happens (host_is_started number host now result) before after = BeginsHost number host now before result after
Happens (is_cancelled number now was_there) before after = Cancels number now before was_there after
Happens (servers_are servers) before after = after ≡ with_pool (after_servers 0 servers before.pool) before
Happens (octets_come channel octets now) before after =
    after ≡ with_pool (after_octets channel octets now before.pool) before
Happens (channel_fails failure now) before after = after ≡ with_pool (after_failure failure now before.pool) before
Happens (time_passes now) before after = after ≡ with_pool (after_tick now before.pool) before
Happens (name_is_cleared name t result) before after = ClearsName name t before result after
Happens all_is_cleared before after = after ≡ cleared before
Happens (is_stepped action) before after = SessionSteps before action after

-- The latest is the first of these. Events and steps come in any order.
pub data NetworkRuns (start : NetworkValue) : List NetworkEvent → NetworkValue → Type 0 where
  at_first : NetworkRuns start [] start
  next : (past : List NetworkEvent) (event : NetworkEvent) (before after : NetworkValue) → Happens event before after
      → NetworkRuns start past before → NetworkRuns start (event ∷ past) after

-- an event is that octets come, that a channel fails, or that there are other servers, as the pool is told; or it is none
-- of these
abbrev pub given_by : NetworkEvent → List PoolEvent
given_by (octets_come channel octets now) = pool.octets_come channel octets now ∷ []
given_by (channel_fails failure now) = pool.channel_fails failure now ∷ []
given_by (servers_are servers) = pool.group_has 0 servers ∷ []
given_by other = []

-- the octets that came to a session, the channels that failed, and its servers, the latest first
abbrev pub given_in : List NetworkEvent → List PoolEvent
given_in [] = []
given_in (event ∷ past) = given_by event ++ given_in past
