-- Which addresses are in a network.
use Rattle.std.specs.Prelude.{ℕ, ◌-◌, ◌/◌, ◌^◌, Bool, false, ◌==◌, List}
use Rattle.std.specs.Int.{w32, w128, from_be_bytes}
use Rattle.std.specs.List.{list_any}
use Rattle.std.specs.Net.Addr.{ipv4_bits, ipv6_bits, octets_of}
use Rattle.std.specs.declared.net.IpAddr.{IpAddr}
use Rattle.std.specs.declared.net.IpAddr.TheVariants.{V4, V6}
use Rattle.hickory_proto_core.specs.Records.{DataValue, a_data, aaaa_data}
use Rattle.hickory_proto_names.specs.declared.ip.IpNet.{IpNet}

-- The leading bits of a number of so many bits, as a number; all of it where more are wanted.
abbrev pub leading_bits : ℕ → ℕ → ℕ → ℕ
leading_bits width count bits = bits / 2 ^ (width - count)

-- an address of a family, by its bits, has the leading bits of the address of a network, which is of that family
abbrev pub has_v4 : IpAddr → ℕ → ℕ → Bool
has_v4 (V4 own) count bits = leading_bits 32 count (ipv4_bits own) == leading_bits 32 count bits
has_v4 (V6 own) count bits = false

abbrev pub has_v6 : IpAddr → ℕ → ℕ → Bool
has_v6 (V4 own) count bits = false
has_v6 (V6 own) count bits = leading_bits 128 count (ipv6_bits own) == leading_bits 128 count bits

-- the data of a record are an address in a network
abbrev pub is_in : IpNet → DataValue → Bool
is_in net (a_data octets) = has_v4 net.addr net.prefix_len (from_be_bytes w32 octets)
is_in net (aaaa_data segments) = has_v6 net.addr net.prefix_len (from_be_bytes w128 (octets_of segments))
is_in net other = false

abbrev pub is_in_some : List IpNet → DataValue → Bool
is_in_some nets rdata = list_any (λ net. is_in net rdata) nets
