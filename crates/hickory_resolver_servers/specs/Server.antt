-- A name server, and what is known of it. Moments and round trips are milliseconds.
use Rattle.std.specs.Prelude.{ℕ, ◌-◌, Bool, true, false, List, find, nat_le, Option, None, Some, if◌then◌else◌}
use Rattle.std.specs.Option.{option_map}
use Rattle.std.specs.declared.net.IpAddr.{IpAddr}
use Rattle.hickory_resolver_config.specs.Connections.{ProtocolValue, over_udp, over_tcp, ConnectionValue}
use Rattle.hickory_resolver_config.specs.Servers.{ServerValue}
use Rattle.hickory_resolver_servers.specs.declared.choices.TheConstants.{KNOWN_FOR}
use Rattle.hickory_resolver_servers.specs.declared.server.Estimate.{Estimate}

-- A scope has octets where the address is link-local (RFC 4007, section 6). A probe is the number of the transaction
-- that tries a server of which nothing is known.
pub record ServerState : Type 0 where
  pub address : IpAddr
  pub scope : List ℕ
  pub udp_port : Option ℕ
  pub tcp_port : Option ℕ
  pub trust_negative_responses : Bool
  pub estimate : Option Estimate
  pub probe : Option ℕ

-- ---- as it is configured

abbrev pub is_udp : ProtocolValue → Bool
is_udp over_udp = true
is_udp other = false

abbrev pub is_tcp : ProtocolValue → Bool
is_tcp over_tcp = true
is_tcp other = false

-- the port of the first connection of a protocol
abbrev pub port_over : (ProtocolValue → Bool) → List ConnectionValue → Option ℕ
port_over is_it connections = option_map (λ c. c.port) (find (λ c. is_it c.protocol) connections)

-- of which nothing is known yet
abbrev pub server_of : ServerValue → List ℕ → ServerState
server_of config scope = record {
  address = config.ip;
  scope = scope;
  udp_port = port_over is_udp config.connections;
  tcp_port = port_over is_tcp config.connections;
  trust_negative_responses = config.trust_negative_responses;
  estimate = None;
  probe = None;
}

-- ---- what is known

-- its smoothed round trip, where it was measured and not too long ago
abbrev pub recent : ℕ → Option Estimate → Option ℕ
recent now None = None
recent now (Some e) = if nat_le (now - e.measured_at) KNOWN_FOR then Some e.round_trip else None

abbrev pub known_at : ℕ → ServerState → Option ℕ
known_at now s = recent now s.estimate
