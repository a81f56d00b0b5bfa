-- Connections to a name server: protocols, ports and paths.
use Rattle.std.specs.Prelude.{ℕ, Bool, false, ◌&&◌, ◌==◌, List, [], nat_eq, Option, None, Some, codes, string_bytes}
use Rattle.std.specs.Bool.{beq}
use Rattle.std.specs.Cmp.{IsEquivalence, and_equiv, on_equiv, nat_eq_equiv, bool_eq_equiv}
use Rattle.std.specs.Cmp.Lexicographic.{pointwise, lists_equiv}
use Rattle.std.specs.declared.net.SocketAddr.{SocketAddr}
use Rattle.std.specs.declared.string.String.{String}
use Rattle.hickory_proto_core.specs.codes.protocol.Protocol.{Protocol}
use Rattle.hickory_proto_core.specs.codes.protocol.Protocol.TheVariants as protocol
use Rattle.hickory_resolver_config.specs.declared.protocol_config.ProtocolConfig.{ProtocolConfig}
use Rattle.hickory_resolver_config.specs.declared.protocol_config.ProtocolConfig.TheVariants.{Udp, Tcp, Tls, Https, Quic, H3}

-- a protocol, with the bytes of the server's name and of the path where it has them; the last of HTTP/3 is
-- whether no reserved values are sent
pub data ProtocolValue : Type 0 where
  over_udp : ProtocolValue
  over_tcp : ProtocolValue
  over_tls : List ℕ → ProtocolValue
  over_https : List ℕ → List ℕ → ProtocolValue
  over_quic : List ℕ → ProtocolValue
  over_h3 : List ℕ → List ℕ → Bool → ProtocolValue

abbrev pub protocol_value : ProtocolConfig → ProtocolValue
protocol_value Udp = over_udp
protocol_value Tcp = over_tcp
protocol_value (Tls server_name) = over_tls (string_bytes server_name)
protocol_value (Https server_name path) = over_https (string_bytes server_name) (string_bytes path)
protocol_value (Quic server_name) = over_quic (string_bytes server_name)
protocol_value (H3 server_name path disable_grease) =
    over_h3 (string_bytes server_name) (string_bytes path) disable_grease

-- the protocol alone
abbrev pub protocol_of : ProtocolValue → Protocol
protocol_of over_udp = protocol.Udp
protocol_of over_tcp = protocol.Tcp
protocol_of (over_tls server_name) = protocol.Tls
protocol_of (over_https server_name path) = protocol.Https
protocol_of (over_quic server_name) = protocol.Quic
protocol_of (over_h3 server_name path disable_grease) = protocol.H3

-- the port at which its servers listen
abbrev pub default_port : ProtocolValue → ℕ
default_port over_udp = 53
default_port over_tcp = 53
default_port (over_tls server_name) = 853
default_port (over_https server_name path) = 443
default_port (over_quic server_name) = 853
default_port (over_h3 server_name path disable_grease) = 443

-- the path that is given, or that of the examples in RFC 8484, section 4.1.1
abbrev pub path_or_default : {Z : Type 0} → Option (String Z) → List ℕ
path_or_default None = codes "/dns-query"
path_or_default (Some path) = string_bytes path

-- protocols are equal where they are one and all their fields are equal. A field that a protocol does not have
-- counts as one without bytes, or as false
abbrev pub protocol_number : ProtocolValue → ℕ
protocol_number over_udp = 0
protocol_number over_tcp = 1
protocol_number (over_tls server_name) = 2
protocol_number (over_https server_name path) = 3
protocol_number (over_quic server_name) = 4
protocol_number (over_h3 server_name path disable_grease) = 5

abbrev pub server_name_of : ProtocolValue → List ℕ
server_name_of over_udp = []
server_name_of over_tcp = []
server_name_of (over_tls server_name) = server_name
server_name_of (over_https server_name path) = server_name
server_name_of (over_quic server_name) = server_name
server_name_of (over_h3 server_name path disable_grease) = server_name

abbrev pub path_of : ProtocolValue → List ℕ
path_of over_udp = []
path_of over_tcp = []
path_of (over_tls server_name) = []
path_of (over_https server_name path) = path
path_of (over_quic server_name) = []
path_of (over_h3 server_name path disable_grease) = path

abbrev pub disables_grease : ProtocolValue → Bool
disables_grease over_udp = false
disables_grease over_tcp = false
disables_grease (over_tls server_name) = false
disables_grease (over_https server_name path) = false
disables_grease (over_quic server_name) = false
disables_grease (over_h3 server_name path disable_grease) = disable_grease

abbrev pub protocol_eq : ProtocolValue → ProtocolValue → Bool
protocol_eq p q =
    (protocol_number p == protocol_number q) && pointwise nat_eq (server_name_of p) (server_name_of q)
    && pointwise nat_eq (path_of p) (path_of q) && beq (disables_grease p) (disables_grease q)

pub protocol_equiv : IsEquivalence protocol_eq
protocol_equiv =
    and_equiv (and_equiv (and_equiv (on_equiv protocol_number nat_eq_equiv)
    (on_equiv server_name_of (lists_equiv nat_eq_equiv)))
    (on_equiv path_of (lists_equiv nat_eq_equiv)))
    (on_equiv disables_grease bool_eq_equiv)

-- the same of the configurations themselves
abbrev pub config_protocol_eq : ProtocolConfig → ProtocolConfig → Bool
config_protocol_eq p q = protocol_eq (protocol_value p) (protocol_value q)

pub config_protocol_equiv : IsEquivalence config_protocol_eq
config_protocol_equiv = on_equiv protocol_value protocol_equiv

pub record ConnectionValue : Type 0 where
  pub port : ℕ
  pub protocol : ProtocolValue
  pub bind_addr : Option SocketAddr

-- a connection to the default port, from any local address
abbrev pub connection_over : ProtocolValue → ConnectionValue
connection_over p = record { port = default_port p; protocol = p; bind_addr = None }
