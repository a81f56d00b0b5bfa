-- The texts of addresses that are read (RFC 4291, section 2.2), and the one that is printed (RFC 5952).
use Rattle.std.specs.Prelude.{◌≡◌, ℕ, ◌+◌, ◌<◌, ◌≤◌, ◌⊎◌, List, ◌++◌, length, take, drop, replicate, codes}
use Rattle.std.specs.declared.net.IpAddr.{IpAddr}
use Rattle.std.specs.declared.net.IpAddr.TheVariants.{V4, V6}
use Rattle.std.specs.Net.Addr.{ipv4_octets, ipv6_segments, low_octets, IsIpv4Mapped}
use Rattle.std.specs.Net.Grammar.{IsIpText}
use Rattle.std.specs.Net.Text.{ip_text, ipv4_text, groups_text}

-- The text spells the address: four decimal numbers below 256 without leading zeros and dots between them; or
-- eight groups of one to four hex digits and colons between them, of which the last two may be an IPv4 text,
-- and one `::` may stand for one zero group or more.
abbrev pub IsAddressText : List ℕ → IpAddr → Type 0
IsAddressText text address = IsIpText text address

-- the printed text, computed
abbrev pub address_text : IpAddr → List ℕ
address_text address = ip_text address

-- `len` zero groups lie at `start`
abbrev pub IsZeroRun : List ℕ → ℕ → ℕ → Type 0
IsZeroRun groups start len = (start + len ≤ length groups) × (take len (drop start groups) ≡ replicate len 0)

-- the run that `::` stands for: two groups or more, none is longer, and none as long begins before it
-- (sections 4.2.2 and 4.2.3)
pub record IsLongestRun (groups : List ℕ) (start len : ℕ) : Type 0 where
  pub zeros : IsZeroRun groups start len
  pub two : 2 ≤ len
  pub longest : (s n : ℕ) → IsZeroRun groups s n → n ≤ len
  pub first : (s : ℕ) → IsZeroRun groups s len → start ≤ s

-- groups in lower-case hex without leading zeros, with colons between them, and `::` for the longest run of
-- zeros, if two groups are one
abbrev pub IsPrintedGroups : List ℕ → List ℕ → Type 0
IsPrintedGroups text groups =
    ((start len : ℕ) × IsLongestRun groups start len
    × (text ≡ groups_text (take start groups) ++ codes "::" ++ groups_text (drop (start + len) groups)))
    ⊎ (((s n : ℕ) → IsZeroRun groups s n → n < 2) × (text ≡ groups_text groups))

-- the text that the rule gives: an IPv4-mapped address ends in its IPv4 text (section 5)
abbrev pub IsPrintedAddress : List ℕ → IpAddr → Type 0
IsPrintedAddress text (V4 a) = text ≡ ipv4_text (ipv4_octets a)
IsPrintedAddress text (V6 a) =
    (IsIpv4Mapped (ipv6_segments a) × (text ≡ codes "::ffff:" ++ ipv4_text (low_octets a)))
    ⊎ ((¬ (IsIpv4Mapped (ipv6_segments a))) × IsPrintedGroups text (ipv6_segments a))
