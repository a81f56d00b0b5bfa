-- Where channels are opened to.
use Rattle.std.specs.Prelude.{◌≡◌, ℕ, List, ◌∷◌, ◌++◌, Contains, Option, Some}
use Rattle.std.specs.List.{AllByRecursion}
use Rattle.hickory_proto_core.specs.declared.dns_request.DnsRequestOptions.{DnsRequestOptions}
use Rattle.hickory_proto_core.specs.declared.query.Query.{Query}
use Rattle.hickory_resolver_askers.specs.Askers.{next_one}
use Rattle.hickory_resolver_channels.specs.declared.channel.ChannelKind.{ChannelKind}
use Rattle.hickory_resolver_channels.specs.declared.channel.ChannelKind.TheVariants.{Datagram, Stream}
use Rattle.hickory_resolver_config.specs.ResolverConfig.{OptionsValue}
use Rattle.hickory_resolver_servers.specs.Server.{ServerState, server_of}
use Rattle.hickory_resolver_tries.specs.Question.{question_of}
use Rattle.hickory_resolver_tries.specs.declared.pool_question.DnssecOptions.{DnssecOptions}
use Rattle.hickory_resolver_traffic.specs.Openings.{OpeningValue}
use Rattle.hickory_resolver_traffic.specs.Table.{CurrentState}
use Rattle.hickory_resolver_traffic.specs.Tasks.{source_for}
use Rattle.hickory_resolver_pool.specs.Laws.{is_asked}
use Rattle.hickory_resolver_pool.specs.Pool.{PoolState, no_servers, list_of, asking_told, Steps}
use Rattle.hickory_resolver_pool.specs.Servers.{PoolServerValue, sources_of}
use Rattle.hickory_resolver_pool.specs.declared.limits.PoolLimits.{PoolLimits}
use Rattle.hickory_resolver_pool.specs.declared.pool.Action.{Action}
use Rattle.hickory_resolver_pool.specs.declared.pool.Action.TheVariants.{Open}
use Rattle.hickory_resolver_pool.specs.declared.pool.Asked.TheVariants as asked
use Rattle.hickory_resolver_pool_theorems.specs.Answers.{servers_in}
use Rattle.hickory_resolver_pool_theorems.specs.Runs.{Happening, came, did, Runs}

-- the port of a server for what goes over a channel, where it was given one
abbrev pub port_given : ChannelKind → ServerState → Option ℕ
port_given Datagram server = server.udp_port
port_given Stream server = server.tcp_port

-- to the address of a server as it was given, and to the port that it was given for what goes over the channel
pub record IsToServer (server : PoolServerValue) (o : OpeningValue) : Type 0 where
  pub address : o.address ≡ server.config.ip
  pub scope : o.scope ≡ server.scope
  pub port : port_given o.kind (server_of server.config server.scope) ≡ Some o.port
  pub bind_addr : o.bind_addr ≡ source_for o.kind (sources_of server)

-- no channel was opened before under this number
abbrev pub OpensOther : ℕ → Option Action → Type 0
OpensOther channel (Some (Open o)) = o.channel ≡ channel → ⊥
OpensOther channel other = Unit {0}

abbrev pub OpenedOther : ℕ → Happening → Type 0
OpenedOther channel (did s action) = OpensOther channel action
OpenedOther channel other = Unit {0}

-- The transaction that is worked on began when a question was asked of a group; and the channel is opened to a server
-- that this group had then.
pub record IsOpening (past : List Happening) (s : PoolState) (o : OpeningValue) : Type 0 where
  pub current : CurrentState
  pub works : s.current ≡ Some current
  pub later : List Happening
  pub earlier : List Happening
  pub pool : PoolState
  pub group : ℕ
  pub query : Query
  pub request : DnsRequestOptions
  pub dnssec : DnssecOptions
  pub now : ℕ
  pub happened : past ≡ later ++ came pool (is_asked group query request dnssec now) ∷ earlier
  pub number : pool.traffic.askers.next_transaction ≡ current.number
  pub given : asking_told (list_of group pool.traffic) (question_of query request dnssec) pool
      ≡ asked.Asker (next_one pool.traffic.askers)
  pub server : PoolServerValue
  pub has : Contains (servers_in group earlier) server
  pub to : IsToServer server o
  pub is_new : AllByRecursion (OpenedOther o.channel) past

abbrev pub OpensToOwnServers : Type 0
OpensToOwnServers =
    (options : OptionsValue) (limits : PoolLimits) (seed : List ℕ) (past : List Happening) (s after : PoolState)
    → (o : OpeningValue) → Runs (no_servers options limits seed) past s → Steps s (Some (Open o)) after
    → IsOpening past s o
