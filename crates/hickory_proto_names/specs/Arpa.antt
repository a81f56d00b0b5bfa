-- The names of addresses and networks under `in-addr.arpa.` (RFC 1035, section 3.5) and `ip6.arpa.` (RFC
-- 3596, section 2.5).
use Rattle.std.specs.Prelude.{◌≡◌, ◌≢◌, ℕ, ◌*◌, ◌-◌, ◌/◌, ◌%◌, ◌<◌, ◌≤◌, Bool, true, IsTrue, List, [], ◌∷◌, ◌++◌, length, map, reverse, take, drop, replicate, slice_index, codes, decimal, Option, MatchOption}
use Rattle.std.specs.Char.{digit_char}
use Rattle.std.specs.Net.Addr.{ipv4_octets, ipv6_octets, MatchIp, IsIpv4Addr, IsIpv6Addr, is_ipv6}
use Rattle.std.specs.declared.net.IpAddr.{IpAddr}
use Rattle.std.specs.declared.net.IpAddr.TheVariants.{V4, V6}
use Rattle.hickory_proto_names.specs.Name.{NameValue, name_eq, lower_labels}
use Rattle.hickory_proto_names.specs.declared.ip.IpNet.{IpNet}

-- each octet as two hex digits, the high one first
abbrev pub nibbles_of : List ℕ → List ℕ
nibbles_of [] = []
nibbles_of (o ∷ octets) = (o / 16) ∷ (o % 16) ∷ nibbles_of octets

-- what the labels of an address stand for, the most significant first: four octets, or 32 hex digits
abbrev pub parts : IpAddr → List ℕ
parts (V4 a) = ipv4_octets a
parts (V6 a) = nibbles_of (ipv6_octets a)

-- the bits of each
abbrev pub part_bits : IpAddr → ℕ
part_bits (V4 a) = 8
part_bits (V6 a) = 4

-- the label of a hex digit, in lower case
abbrev pub hex_label : ℕ → List ℕ
hex_label n = digit_char n ∷ []

-- each as a label: a decimal number, or a hex digit
abbrev pub part_label : IpAddr → ℕ → List ℕ
part_label (V4 a) n = decimal n
part_label (V6 a) n = hex_label n

-- the labels that all names of the family end with
abbrev pub arpa_zone : IpAddr → List (List ℕ)
arpa_zone (V4 a) = codes "in-addr" ∷ codes "arpa" ∷ []
arpa_zone (V6 a) = codes "ip6" ∷ codes "arpa" ∷ []

-- how many labels a network has before these
abbrev pub part_count : IpNet → ℕ
part_count net = net.prefix_len / part_bits net.addr

-- these labels: the leading parts of the address, the least significant first
abbrev pub net_labels : IpNet → List (List ℕ)
net_labels net = reverse (map (part_label net.addr) (take (part_count net) (parts net.addr)))

-- the name of a network
abbrev pub arpa_name : IpNet → NameValue
arpa_name net = record { labels = net_labels net ++ arpa_zone net.addr; fqdn = true }

-- an address with all its bits
abbrev pub whole_net : IpAddr → IpNet
whole_net (V4 a) = record { addr = V4 a; prefix_len = 32 }
whole_net (V6 a) = record { addr = V6 a; prefix_len = 128 }

-- a network that names stand for: its prefix is a whole number of parts, and the parts behind it are zero
pub record IsArpaNet (net : IpNet) : Type 0 where
  pub address : MatchIp net.addr IsIpv4Addr IsIpv6Addr
  pub within : part_count net ≤ length (parts net.addr)
  pub whole : net.prefix_len ≡ part_bits net.addr * part_count net
  pub zeros : drop (part_count net) (parts net.addr) ≡ replicate (length (parts net.addr) - part_count net) 0

-- the name is that of the network, whatever its case
abbrev pub IsArpaNameOf : NameValue → IpNet → Type 0
IsArpaNameOf name net = IsArpaNet net × IsTrue (name_eq name (arpa_name net))

-- What the functions that read labels say.

-- the labels, whatever their case, write the first of these numbers, the last first, and the others are zero
pub record IsWritten
    (label : ℕ → List ℕ) (below : ℕ) (labels : List (List ℕ)) (numbers : List ℕ)
    : Type 0 where
  pub within : length labels ≤ length numbers
  pub written : lower_labels labels ≡ reverse (map label (take (length labels) numbers))
  pub zeros : drop (length labels) numbers ≡ replicate (length numbers - length labels) 0
  pub small : (k : ℕ) → slice_index numbers k < below

-- no such numbers, `most` at most, are written by the labels
abbrev pub IsNeverWritten : (ℕ → List ℕ) → ℕ → ℕ → List (List ℕ) → Type 0
IsNeverWritten label below most labels =
    (numbers : List ℕ) → length numbers ≤ most → ((k : ℕ) → slice_index numbers k < below)
    → lower_labels labels ≢ reverse (map label numbers)

-- the network of these labels, or none where they are no network's, in one of the families
abbrev pub IsNetOfLabels : Bool → List (List ℕ) → Option IpNet → Type 0
IsNetOfLabels ipv6 labels result =
    MatchOption result
    ((net : IpNet) → IsArpaNet net → is_ipv6 net.addr ≡ ipv6 → lower_labels labels ≢ net_labels net)
    (λ net. IsArpaNet net × (is_ipv6 net.addr ≡ ipv6) × (lower_labels labels ≡ net_labels net))
