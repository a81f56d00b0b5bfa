-- A line that names a server: `server` ADDRESS [PORT] [PROTOCOL].
use Rattle.std.specs.Prelude.{ℕ, Bool, false, ◌==◌, List, [], ◌∷◌, codes, map, Option, None, Some, Result, Ok, Err, if◌then◌else◌}
use Rattle.std.specs.Char.{is_ascii_digit}
use Rattle.std.specs.List.{zip}
use Rattle.std.specs.Option.{ok_or}
use Rattle.std.specs.declared.net.IpAddr.{IpAddr}
use Rattle.hickory_proto_core.specs.Codes.{is_text}
use Rattle.hickory_resolver_config.specs.Connections.{ConnectionValue, ProtocolValue, connection_over, over_tcp, over_udp}
use Rattle.hickory_resolver_config.specs.Servers.{ServerValue, server_over}
use Rattle.hickory_resolver_pool.specs.Servers.{PoolServerValue}
use Rattle.replay_script.specs.Faults.{LineFaultValue, wrong_field, wrong_line}
use Rattle.replay_script.specs.Words.{◌>>=◌, number_field}
use Rattle.replay_script.specs.declared.fault.ScriptFault.TheVariants.{BadAddress, BadNumber, FieldCount, UnknownWord}
use Rattle.resolv_conf.specs.ResolvConf.{ResolvConfValue}
use Rattle.resolv_conf.specs.Servers.{server_of}
use Rattle.resolv_conf.specs.declared.server.Server.{Server}
use Rattle.session_settings.specs.declared.server_line.Access.{Access}
use Rattle.session_settings.specs.declared.server_line.Protocols.{Protocols}
use Rattle.session_settings.specs.declared.server_line.Protocols.TheVariants.{UdpAndTcp, Udp, Tcp}

-- ADDRESS, as it stands behind `nameserver` in a file resolv.conf
abbrev pub address_field : List ℕ → Result Server LineFaultValue
address_field word = ok_or (server_of word) (wrong_field BadAddress word)

-- PORT, from 1 to 65535
abbrev pub not_zero : List ℕ → ℕ → Result ℕ LineFaultValue
not_zero text port = if port == 0 then Err (wrong_field BadNumber text) else Ok port

abbrev pub port_field : List ℕ → Result ℕ LineFaultValue
port_field text = number_field 16 text >>= not_zero text

-- PROTOCOL, which is then the only one
abbrev pub protocol_field : List ℕ → Result Protocols LineFaultValue
protocol_field word =
    if is_text (codes "udp") word then Ok Udp else (
    if is_text (codes "tcp") word then Ok Tcp else Err (wrong_field UnknownWord word))

abbrev pub access_to : ℕ → Protocols → Access
access_to port protocols = record { port = port; protocols = protocols }

-- a word that begins with a digit is to be a port, and another one a protocol
abbrev pub begins_with_digit : List ℕ → Bool
begins_with_digit [] = false
begins_with_digit (first ∷ word) = is_ascii_digit first

abbrev pub port_or_protocol : List ℕ → Result Access LineFaultValue
port_or_protocol word =
    if begins_with_digit word then (port_field word >>= (λ port. Ok (access_to port UdpAndTcp)))
    else (protocol_field word >>= (λ protocol. Ok (access_to 53 protocol)))

-- PORT PROTOCOL
abbrev pub port_and_protocol : List ℕ → List ℕ → Result Access LineFaultValue
port_and_protocol port_text word = do
  port ← port_field port_text
  protocol ← protocol_field word
  Ok (access_to port protocol)

-- [PORT] [PROTOCOL]: port 53 and both UDP and TCP, where nothing else is said
abbrev pub access_of : List (List ℕ) → Result Access LineFaultValue
access_of [] = Ok (access_to 53 UdpAndTcp)
access_of (word ∷ []) = port_or_protocol word
access_of (port ∷ protocol ∷ []) = port_and_protocol port protocol
access_of fields = Err (wrong_line FieldCount)

abbrev pub protocols_of : Protocols → List ProtocolValue
protocols_of UdpAndTcp = over_udp ∷ over_tcp ∷ []
protocols_of Udp = over_udp ∷ []
protocols_of Tcp = over_tcp ∷ []

-- a connection to this port
abbrev pub connection_to : ℕ → ProtocolValue → ConnectionValue
connection_to port protocol = record (connection_over protocol) { port = port }

-- a trusted server at this address, with a connection to the port over each protocol
abbrev pub config_at : Access → IpAddr → ServerValue
config_at access address = record (server_over (protocols_of access.protocols) address) {
  connections = map (connection_to access.port) (protocols_of access.protocols);
}

-- the octets of a scope, none where there is none
abbrev pub scope_octets : Option (List ℕ) → List ℕ
scope_octets None = []
scope_octets (Some scope) = scope

abbrev pub server_at : Server → Access → PoolServerValue
server_at server access = record { config = config_at access server.address; scope = scope_octets server.scope }

abbrev pub server_with : Server → Result Access LineFaultValue → Result PoolServerValue LineFaultValue
server_with server access = access >>= (λ access. Ok (server_at server access))

-- ADDRESS [PORT] [PROTOCOL]
abbrev pub server_line : List (List ℕ) → Result PoolServerValue LineFaultValue
server_line [] = Err (wrong_line FieldCount)
server_line (address ∷ fields) = address_field address >>= (λ server. server_with server (access_of fields))

-- a server of a file, beside its scope
abbrev pub scoped : ServerValue × Option (List ℕ) → PoolServerValue
scoped server = record { config = server.0; scope = scope_octets server.1 }

-- the servers of a file
abbrev pub file_servers : ResolvConfValue → List PoolServerValue
file_servers conf = map scoped (zip conf.config.name_servers conf.scopes)
