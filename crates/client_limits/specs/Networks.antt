-- What an address counts as.
use Rattle.std.specs.Prelude.{ℕ, ◌+◌, ◌*◌, ◌/◌, ◌^◌, ◌==◌, if◌then◌else◌}
use Rattle.std.specs.Net.Addr.{ipv4_bits, ipv6_bits}
use Rattle.std.specs.declared.net.IpAddr.{IpAddr}
use Rattle.std.specs.declared.net.IpAddr.TheVariants.{V4, V6}

-- An address of IPv4 is one of IPv6 whose first 96 bits are ::ffff:0:0 (RFC 4291, section 2.5.5.2).
abbrev pub as_v6 : IpAddr → ℕ
as_v6 (V4 a) = 0xffff * 2 ^ 32 + ipv4_bits a
as_v6 (V6 a) = ipv6_bits a

-- All other addresses of IPv6 count as their first 64 bits: one client has at least such a network (RFC 6177).
abbrev pub network_of : ℕ → ℕ
network_of bits = if bits / 2 ^ 32 == 0xffff then bits else bits / 2 ^ 64 * 2 ^ 64

abbrev pub counted_as : IpAddr → ℕ
counted_as a = network_of (as_v6 a)
