-- Name servers, and groups of them.
use Rattle.std.specs.Prelude.{◌≡◌, ◌⊎◌, ℕ, Bool, true, false, List, [], ◌∷◌, map, Option, None, Some, Result, Ok, Err, codes}
use Rattle.std.specs.declared.net.IpAddr.{IpAddr}
use Rattle.std.specs.declared.net.IpAddr.TheVariants.{V4, V6}
use Rattle.hickory_proto_core.specs.declared.net_error.NetError.{NetError}
use Rattle.hickory_proto_core.specs.declared.net_error.NetError.TheVariants.{OutOfMemory}
use Rattle.hickory_resolver_config.specs.Connections.{ProtocolValue, over_udp, over_tcp, over_tls, over_https, over_quic, over_h3, ConnectionValue, connection_over}
use Rattle.hickory_resolver_config.specs.declared.server_group_iter.Transport.{Transport}
use Rattle.hickory_resolver_config.specs.declared.server_group_iter.Transport.TheVariants.{UdpAndTcp, Udp, Tcp, Tls, Https, Quic, H3}

pub record ServerValue : Type 0 where
  pub ip : IpAddr
  pub trust_negative_responses : Bool
  pub connections : List ConnectionValue

-- a trusted server, with a connection for each protocol
abbrev pub server_over : List ProtocolValue → IpAddr → ServerValue
server_over protocols ip =
    record { ip = ip; trust_negative_responses = true; connections = map connection_over protocols }

-- such a server at each of these addresses, in order
abbrev pub servers_over : List ProtocolValue → List IpAddr → List ServerValue
servers_over protocols ips = map (server_over protocols) ips

-- the servers that have a name and a path in common. Both are bytes
pub record GroupValue : Type 0 where
  pub ips : List IpAddr
  pub server_name : List ℕ
  pub path : List ℕ

-- the protocols by which a server of this name and path is asked
abbrev pub transport_protocols : Transport → List ℕ → List ℕ → List ProtocolValue
transport_protocols UdpAndTcp server_name path = over_udp ∷ over_tcp ∷ []
transport_protocols Udp server_name path = over_udp ∷ []
transport_protocols Tcp server_name path = over_tcp ∷ []
transport_protocols Tls server_name path = over_tls server_name ∷ []
transport_protocols Https server_name path = over_https server_name path ∷ []
transport_protocols Quic server_name path = over_quic server_name ∷ []
transport_protocols H3 server_name path = over_h3 server_name path false ∷ []

-- the servers to come before a call, what it gives, and the servers to come after it. The first one is given,
-- or there was no memory for it; either way the others are left. Nothing comes after the last
abbrev pub GivesNextServer : List ServerValue → Option (Result ServerValue NetError) → List ServerValue → Type 0
GivesNextServer [] result after = (result ≡ None) × (after ≡ [])
GivesNextServer (s ∷ ss) result after =
    ((result ≡ Some (Ok s)) ⊎ (result ≡ Some (Err OutOfMemory))) × (after ≡ ss)

abbrev pub ipv4 : ℕ → ℕ → ℕ → ℕ → IpAddr
ipv4 a b c d = V4 (record { octets = a ∷ b ∷ c ∷ d ∷ [] })

abbrev pub ipv6 : ℕ → ℕ → ℕ → ℕ → ℕ → ℕ → ℕ → ℕ → IpAddr
ipv6 a b c d e f g h = V6 (record { segments = a ∷ b ∷ c ∷ d ∷ e ∷ f ∷ g ∷ h ∷ [] })

-- the public resolvers of Google: 8.8.8.8, 8.8.4.4, 2001:4860:4860::8888 and 2001:4860:4860::8844
abbrev pub google_group : GroupValue
google_group = record {
  ips =
      ipv4 8 8 8 8 ∷ ipv4 8 8 4 4 ∷ ipv6 0x2001 0x4860 0x4860 0 0 0 0 0x8888
      ∷ ipv6 0x2001 0x4860 0x4860 0 0 0 0 0x8844 ∷ [];
  server_name = codes "dns.google";
  path = codes "/dns-query";
}

-- those of Cloudflare: 1.1.1.1, 1.0.0.1, 2606:4700:4700::1111 and 2606:4700:4700::1001
abbrev pub cloudflare_group : GroupValue
cloudflare_group = record {
  ips =
      ipv4 1 1 1 1 ∷ ipv4 1 0 0 1 ∷ ipv6 0x2606 0x4700 0x4700 0 0 0 0 0x1111
      ∷ ipv6 0x2606 0x4700 0x4700 0 0 0 0 0x1001 ∷ [];
  server_name = codes "cloudflare-dns.com";
  path = codes "/dns-query";
}

-- those of Quad9: 9.9.9.9, 149.112.112.112, 2620:fe::fe and 2620:fe::9
abbrev pub quad9_group : GroupValue
quad9_group = record {
  ips =
      ipv4 9 9 9 9 ∷ ipv4 149 112 112 112 ∷ ipv6 0x2620 0xfe 0 0 0 0 0 0xfe ∷ ipv6 0x2620 0xfe 0 0 0 0 0 9
      ∷ [];
  server_name = codes "dns.quad9.net";
  path = codes "/dns-query";
}
