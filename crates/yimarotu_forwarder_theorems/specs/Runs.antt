-- What happened to a forwarder, one thing after another.
use Rattle.std.specs.Prelude.{◌≡◌, ℕ, Bool, List, [], ◌∷◌, ◌++◌, Option}
use Rattle.hickory_proto_core.specs.Name.{NameValue}
use Rattle.hickory_resolver_pool.specs.Laws.{PoolEvent}
use Rattle.hickory_resolver_pool.specs.Laws as pool
use Rattle.hickory_resolver_pool.specs.Pool.{after_octets, after_servers}
use Rattle.hickory_resolver_pool.specs.Servers.{PoolServerValue}
use Rattle.hickory_resolver_traffic.specs.declared.inbox.ChannelFailure.{ChannelFailure}
use Rattle.client_requests.specs.declared.client.Client.{Client}
use Rattle.yimarotu_forwarder.specs.Flushing.{flushed}
use Rattle.yimarotu_forwarder.specs.Forwarders.{ForwarderValue, at_moment, channel_failed, cleared, moment_passes, with_local, with_pool}
use Rattle.yimarotu_forwarder.specs.Leaving.{gone}
use Rattle.yimarotu_forwarder.specs.Local.{LocalValue}
use Rattle.yimarotu_forwarder.specs.Options.{OptionsValue}
use Rattle.yimarotu_forwarder.specs.Queries.{AnswersQuery}
use Rattle.yimarotu_forwarder.specs.Steps.{ForwarderSteps, StopsStep}
use Rattle.yimarotu_forwarder.specs.declared.answered.Answered.{Answered}
use Rattle.yimarotu_forwarder.specs.declared.steps.ForwarderAction.{ForwarderAction}

-- A query of a client, with how it was answered, or refused for memory; a client that waits no more; an event; a change
-- of what the forwarder was given or keeps; or a step and what the program had to do for it, or one that was refused
-- for memory. A refused call of another kind changes nothing, and does not stand here.
pub data ForwarderEvent : Type 0 where
  query_comes : Client → List ℕ → ℕ → Answered → ForwarderEvent
  query_is_refused : ℕ → ForwarderEvent
  client_is_gone : ℕ → ForwarderEvent
  octets_come : ℕ → List ℕ → ℕ → ForwarderEvent
  channel_fails : ChannelFailure → ℕ → ForwarderEvent
  time_passes : ℕ → ForwarderEvent
  servers_are : ℕ → List PoolServerValue → ForwarderEvent
  local_data_is : LocalValue → ForwarderEvent
  options_are : OptionsValue → ForwarderEvent
  name_is_flushed : NameValue → Bool → ForwarderEvent
  all_is_cleared : ForwarderEvent
  is_stepped : Option ForwarderAction → ForwarderEvent
  step_is_refused : ForwarderEvent

abbrev pub Happens : ForwarderEvent → ForwarderValue → ForwarderValue → Type 0
Happens (query_comes client octets now answered) before after = AnswersQuery client octets now before answered after
Happens (query_is_refused now) before after = after ≡ at_moment now before
Happens (client_is_gone client) before after = after ≡ gone client before
Happens (octets_come channel octets now) before after =
    after ≡ moment_passes now (with_pool (after_octets channel octets now before.pool) before)
Happens (channel_fails failure now) before after = after ≡ channel_failed failure now before
Happens (time_passes now) before after = after ≡ at_moment now before
Happens (servers_are group servers) before after = after ≡ with_pool (after_servers group servers before.pool) before
Happens (local_data_is local) before after = after ≡ with_local local before
Happens (options_are options) before after = after ≡ record before { options = options }
Happens (name_is_flushed domain below) before after = after ≡ flushed domain below before
Happens all_is_cleared before after = after ≡ cleared before
Happens (is_stepped action) before after = ForwarderSteps before action after
Happens step_is_refused before after = StopsStep before after

-- an event, and the forwarder before and after it
pub data Happening : Type 0 where
  happened : ForwarderEvent → ForwarderValue → ForwarderValue → Happening

-- The latest is the first of these. Events and steps come in any order.
pub data Runs (start : ForwarderValue) : List Happening → ForwarderValue → Type 0 where
  at_first : Runs start [] start
  next : (past : List Happening) (event : ForwarderEvent) (before after : ForwarderValue)
      → Happens event before after → Runs start past before → Runs start (happened event before after ∷ past) after

-- an event is that octets of a server come, that a channel fails, or that a group has servers, as the pool is told; or it
-- is none of these
abbrev pub given_by : ForwarderEvent → List PoolEvent
given_by (octets_come channel octets now) = pool.octets_come channel octets now ∷ []
given_by (channel_fails failure now) = pool.channel_fails failure now ∷ []
given_by (servers_are group servers) = pool.group_has group servers ∷ []
given_by other = []

-- the octets that came from servers, the channels that failed, and the servers of its groups, the latest first
abbrev pub given_in : List Happening → List PoolEvent
given_in [] = []
given_in (happened event before after ∷ past) = given_by event ++ given_in past
