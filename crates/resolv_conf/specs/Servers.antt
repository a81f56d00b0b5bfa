-- The server of a line `nameserver`.
use Rattle.std.specs.Prelude.{ℕ, Bool, ◌||◌, ◌&&◌, ◌==◌, not, nat_le, List, length, slice_index, Option, None, Some, option_map, if◌then◌else◌}
use Rattle.std.specs.Net.Addr.{ipv6_segments}
use Rattle.std.specs.declared.net.IpAddr.{IpAddr}
use Rattle.std.specs.declared.net.IpAddr.TheVariants.{V4, V6}
use Rattle.std.specs.declared.net.Ipv6Addr.{Ipv6Addr}
use Rattle.resolv_conf.specs.AddressDecided.{address_of}
use Rattle.resolv_conf.specs.Text.{cut}
use Rattle.resolv_conf.specs.declared.server.Server.{Server}

-- fe80::/10 (RFC 4291, section 2.5.6)
abbrev pub is_link_local : Ipv6Addr → Bool
is_link_local address =
    let first = slice_index (ipv6_segments address) 0 in nat_le 0xfe80 first && nat_le first 0xfebf

-- a scope has a meaning where its address is link-local (RFC 4007, section 6)
unfoldable pub kept_scope : Ipv6Addr → List ℕ → Option (List ℕ)
kept_scope address scope = if (length scope == 0) || not (is_link_local address) then None else Some scope

-- a server without a scope
abbrev pub plain_server : IpAddr → Server
plain_server address = record { address = address; scope = None }

-- an IPv6 address may have a scope, and an IPv4 address none
abbrev pub scoped_server : Option IpAddr → List ℕ → Option Server
scoped_server None scope = None
scoped_server (Some (V4 address)) scope = None
scoped_server (Some (V6 address)) scope =
    Some (record { address = V6 address; scope = kept_scope address scope })

-- the server that the parts of a word are, before `%` and behind it
abbrev pub server_of_parts : List ℕ → Option (List ℕ × List ℕ) → Option Server
server_of_parts word None = option_map plain_server (address_of word)
server_of_parts word (Some parts) = scoped_server (address_of parts.0) parts.1

-- the server that a word is
unfoldable pub server_of : List ℕ → Option Server
server_of word = server_of_parts word (cut 37 word)
