-- The index from an address to the places of the names that have it.
use Rattle.std.specs.Prelude.{◌≡◌, ℕ, ◌<◌, Bool, false, ◌==◌, List, length, slice_index}
use Rattle.std.specs.List.{list_any}
use Rattle.std.specs.Ordering.{nat_cmp, ordering_then}
use Rattle.std.specs.Net.Addr.{ipv4_bits, ipv4_octets, ipv6_bits, ipv6_octets, MatchIp}
use Rattle.std.specs.declared.cmp.Ordering.{Ordering}
use Rattle.std.specs.declared.net.IpAddr.{IpAddr}
use Rattle.std.specs.declared.net.IpAddr.TheVariants.{V4, V6}
use Rattle.std.specs.declared.ops.Bound.TheVariants.{Included, Excluded}
use Rattle.std.specs.BTreeSet.{BTreeSet}
use Rattle.std.specs.BTreeSet as set
use Rattle.hickory_resolver_hosts.specs.declared.owners.Owners.{Owners}

-- this many octets
abbrev pub AreOctets : ℕ → List ℕ → Type 0
AreOctets n xs = (length xs ≡ n) × ((k : ℕ) → slice_index xs k < 256)

-- what the type of an address keeps: four octets, or sixteen
abbrev pub HasOctets : IpAddr → Type 0
HasOctets a = MatchIp a (λ x. AreOctets 4 (ipv4_octets x)) (λ x. AreOctets 16 (ipv6_octets x))

-- a fact of every address that has its four or sixteen octets, as each one in code has
abbrev pub EachAddress : (IpAddr → Type 0) → Type 0
EachAddress P = (a : IpAddr) → HasOctets a → P a

-- whether two addresses are of one family and have the same bits
abbrev pub same_address : IpAddr → IpAddr → Bool
same_address (V4 a) (V4 b) = ipv4_bits a == ipv4_bits b
same_address (V6 a) (V6 b) = ipv6_bits a == ipv6_bits b
same_address (V4 a) (V6 b) = false
same_address (V6 a) (V4 b) = false

-- whether an address is one of these
abbrev pub is_among : IpAddr → List IpAddr → Bool
is_among address addresses = list_any (λ a. same_address a address) addresses

module _ {B : Type 0} (cmp : B → B → Ordering) where
  -- the bits of an address and the place of a name that has it: by bits, and then by place
  abbrev pub owner_cmp : B × ℕ → B × ℕ → Ordering
  owner_cmp p q = ordering_then (cmp p.0 q.0) (nat_cmp p.1 q.1)

  -- the pairs of an address whose places are below a number
  abbrev pub owners_below : BTreeSet (B × ℕ) → B → ℕ → List (B × ℕ)
  owners_below owners bits n = set.keys_between owner_cmp (Included (bits, 0)) (Excluded (bits, n)) owners

-- whether the name at a place has an address, by the pairs of its family
abbrev pub has_owner : BTreeSet (ℕ × ℕ) → ℕ → ℕ → Bool
has_owner owners bits place = set.contains (owner_cmp nat_cmp) owners (bits, place)

-- whether the name at a place has an address, by the index
abbrev pub is_owner : Owners → IpAddr → ℕ → Bool
is_owner index (V4 a) place = has_owner index.v4 (ipv4_bits a) place
is_owner index (V6 a) place = has_owner index.v6 (ipv6_bits a) place
