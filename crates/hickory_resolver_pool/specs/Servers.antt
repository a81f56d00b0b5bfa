-- The servers of a group, as they are given.
use Rattle.std.specs.Prelude.{ℕ, Bool, false, not, ◌==◌, List, map, find, position, Option}
use Rattle.std.specs.Option.{option_map, option_map_or, option_and_then}
use Rattle.std.specs.declared.net.SocketAddr.{SocketAddr}
use Rattle.std.specs.Net.Socket.{socket_port}
use Rattle.hickory_resolver_config.specs.Connections.{ProtocolValue, ConnectionValue}
use Rattle.hickory_resolver_config.specs.Servers.{ServerValue}
use Rattle.hickory_resolver_servers.specs.Server.{ServerState, is_udp, is_tcp, server_of}
use Rattle.hickory_resolver_traffic.specs.declared.groups.Sources.{Sources}

-- with the octets of the scope of a link-local address (RFC 4007, section 6)
pub record PoolServerValue : Type 0 where
  pub config : ServerValue
  pub scope : List ℕ

-- the local address of the first connection of a protocol
abbrev pub first_source : (ProtocolValue → Bool) → List ConnectionValue → Option (Option SocketAddr)
first_source is_it connections = option_map (λ c. c.bind_addr) (find (λ c. is_it c.protocol) connections)

abbrev pub the_same : Option SocketAddr → Option SocketAddr
the_same source = source

abbrev pub source_over : (ProtocolValue → Bool) → List ConnectionValue → Option SocketAddr
source_over is_it connections = option_and_then the_same (first_source is_it connections)

abbrev pub sources_of : PoolServerValue → Sources
sources_of s = record { udp = source_over is_udp s.config.connections; tcp = source_over is_tcp s.config.connections }

abbrev pub states_of : List PoolServerValue → List ServerState
states_of servers = map (λ s. server_of s.config s.scope) servers

-- it is to be asked over UDP from a port that is given
abbrev pub is_fixed : SocketAddr → Bool
is_fixed address = not (socket_port address == 0)

abbrev pub has_fixed_port : PoolServerValue → Bool
has_fixed_port s = option_map_or is_fixed (source_over is_udp s.config.connections) false

abbrev pub first_fixed : List PoolServerValue → Option ℕ
first_fixed servers = position has_fixed_port servers
