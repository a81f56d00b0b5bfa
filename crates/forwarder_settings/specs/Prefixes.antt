-- Networks: ADDRESS[/LENGTH] (RFC 4632, section 3.1; RFC 4291, section 2.3), and those that many programs name.
use Rattle.std.specs.Prelude.{ℕ, ◌+◌, ◌==◌, List, [], ◌∷◌, take, drop, position, Option, None, Some, Result, Ok}
use Rattle.std.specs.Option.{ok_or}
use Rattle.std.specs.declared.net.IpAddr.{IpAddr}
use Rattle.std.specs.declared.net.IpAddr.TheVariants.{V4, V6}
use Rattle.hickory_proto_core.specs.Arpa.{whole_net}
use Rattle.hickory_proto_core.specs.Codes.{decimal_below}
use Rattle.hickory_proto_core.specs.names.ip.IpNet.{IpNet}
use Rattle.replay_script.specs.Faults.{LineFaultValue, wrong_field}
use Rattle.replay_script.specs.Words.{◌>>=◌}
use Rattle.replay_script.specs.declared.fault.ScriptFault.TheVariants.{BadAddress, BadNumber}
use Rattle.resolv_conf.specs.AddressDecided.{address_of}

-- how many bits an address has
abbrev pub address_bits : IpAddr → ℕ
address_bits (V4 address) = 32
address_bits (V6 address) = 128

abbrev pub net_over : IpAddr → ℕ → IpNet
net_over address count = record { addr = address; prefix_len = count }

-- ADDRESS, which is this text of the word
abbrev pub address_in : List ℕ → List ℕ → Result IpAddr LineFaultValue
address_in word text = ok_or (address_of text) (wrong_field BadAddress word)

-- LENGTH: so many leading bits of the address, no more than it has
abbrev pub length_in : List ℕ → IpAddr → List ℕ → Result ℕ LineFaultValue
length_in word address digits = ok_or (decimal_below (address_bits address + 1) digits) (wrong_field BadNumber word)

abbrev pub network_in : List ℕ → List ℕ → List ℕ → Result IpNet LineFaultValue
network_in word text digits = do
  address ← address_in word text
  count ← length_in word address digits
  Ok (net_over address count)

-- with `/` at this place; without one it is the whole address
abbrev pub prefix_at : List ℕ → Option ℕ → Result IpNet LineFaultValue
prefix_at word None = address_in word word >>= (λ address. Ok (whole_net address))
prefix_at word (Some place) = network_in word (take place word) (drop (place + 1) word)

-- PREFIX
abbrev pub prefix_field : List ℕ → Result IpNet LineFaultValue
prefix_field word = prefix_at word (position (λ byte. byte == 47) word)

abbrev pub net_v4 : List ℕ → ℕ → IpNet
net_v4 octets count = net_over (V4 (record { octets = octets })) count

abbrev pub net_v6 : List ℕ → ℕ → IpNet
net_v6 segments count = net_over (V6 (record { segments = segments })) count

-- Networks of a house: loopback (RFC 1122, section 3.2.1.3; RFC 4291, section 2.5.3), private (RFC 1918, section 3; RFC
-- 4193, section 3.1), and link-local (RFC 3927, section 2.1; RFC 4291, section 2.5.6).
abbrev pub near_networks : List IpNet
near_networks =
    net_v4 (127 ∷ 0 ∷ 0 ∷ 0 ∷ []) 8
    ∷ net_v6 (0 ∷ 0 ∷ 0 ∷ 0 ∷ 0 ∷ 0 ∷ 0 ∷ 1 ∷ []) 128
    ∷ net_v4 (10 ∷ 0 ∷ 0 ∷ 0 ∷ []) 8
    ∷ net_v4 (172 ∷ 16 ∷ 0 ∷ 0 ∷ []) 12
    ∷ net_v4 (192 ∷ 168 ∷ 0 ∷ 0 ∷ []) 16
    ∷ net_v4 (169 ∷ 254 ∷ 0 ∷ 0 ∷ []) 16
    ∷ net_v6 (0xfc00 ∷ 0 ∷ 0 ∷ 0 ∷ 0 ∷ 0 ∷ 0 ∷ 0 ∷ []) 7
    ∷ net_v6 (0xfe80 ∷ 0 ∷ 0 ∷ 0 ∷ 0 ∷ 0 ∷ 0 ∷ 0 ∷ []) 10 ∷ []

-- Networks of no host: 0.0.0.0/8 (RFC 1122, section 3.2.1.3), the unspecified address (RFC 4291, section 2.5.2), and
-- the addresses of IPv6 that stand for one of IPv4 (RFC 4291, section 2.5.5.2), which hosts take for that one.
abbrev pub hostless_networks : List IpNet
hostless_networks =
    net_v4 (0 ∷ 0 ∷ 0 ∷ 0 ∷ []) 8
    ∷ net_v6 (0 ∷ 0 ∷ 0 ∷ 0 ∷ 0 ∷ 0 ∷ 0 ∷ 0 ∷ []) 128
    ∷ net_v6 (0 ∷ 0 ∷ 0 ∷ 0 ∷ 0 ∷ 0xffff ∷ 0 ∷ 0 ∷ []) 96 ∷ []
