-- IPv6 addresses with an IPv4 address in them (RFC 6052, section 2.2).
use Rattle.std.specs.Prelude.{ℕ, ◌-◌, Bool, ◌&&◌, ◌||◌, ◌==◌, nat_le, nat_eq, take, drop, replicate, List, ◌∷◌, ◌++◌, if◌then◌else◌}
use Rattle.std.specs.Cmp.Lexicographic.{pointwise}
use Rattle.std.specs.Net.Addr.{ipv6_octets, octets_of}
use Rattle.synthesis.specs.declared.dns64.Prefix.{Prefix}

-- a prefix has 32, 40, 48, 56, 64 or 96 bits
abbrev pub is_length : ℕ → Bool
is_length octets = (octets == 12) || (nat_le 4 octets && nat_le octets 8)

-- so many octets of the prefix, and then the IPv4 address; the ninth of the sixteen octets is 0, and so is what is left
abbrev pub embedded : ℕ → List ℕ → List ℕ → List ℕ
embedded count prefix address =
    if count == 12 then take count prefix ++ address else (
    take 16 (take count prefix ++ take (8 - count) address ++ 0 ∷ drop (8 - count) address ++ replicate 7 0))

-- an IPv6 address, of these segments, is the prefix with the IPv4 address of these octets in it
abbrev pub is_embedded : Prefix → List ℕ → List ℕ → Bool
is_embedded prefix address segments =
    is_length prefix.octets
    && pointwise nat_eq (embedded prefix.octets (ipv6_octets prefix.address) address) (octets_of segments)
