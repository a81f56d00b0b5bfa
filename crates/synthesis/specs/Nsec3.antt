-- What NSEC3 records say (RFC 5155): each owner is the hash of a name, and the record says which hash of its zone comes
-- next, and of which types the name has records. A resolver may make denials of them (RFC 8198, section 5.2).
use Rattle.std.specs.Prelude.{ℕ, zero, suc, ◌+◌, ◌*◌, ◌/◌, ◌%◌, Bool, true, false, not, ◌&&◌, ◌||◌, ◌==◌, nat_le, nat_lt, nat_eq, slice_index, length, take, drop, codes, List, [], ◌∷◌, ◌++◌, Option, None, Some, if◌then◌else◌}
use Rattle.std.specs.Cmp.Lexicographic.{pointwise}
use Rattle.sha1.specs.Sha1.{sha1}
use Rattle.hickory_proto_core.specs.Name.{NameValue, canonical_form, is_zone_of, label_fault, name_eq}
use Rattle.hickory_proto_core.specs.names.name_error.NameError.{NameError}
use Rattle.synthesis.specs.Base32Hex.{base32hex}
use Rattle.synthesis.specs.Nsec.{is_before, is_delegation, lacks_type}
use Rattle.synthesis.specs.TypeBits.{has_type}

-- ---- the data of a record (section 3.2)

pub record Nsec3Value : Type 0 where
  pub algorithm : ℕ
  pub flags : ℕ
  pub iterations : ℕ
  pub salt : List ℕ
  pub next : List ℕ
  pub bits : List ℕ

-- a count, and so many octets, and what stands behind them
abbrev pub counted : List ℕ → Option (List ℕ × List ℕ)
counted [] = None
counted (count ∷ rest) = if nat_lt (length rest) count then None else Some (take count rest, drop count rest)

abbrev pub with_next : List ℕ → List ℕ → Option (List ℕ × List ℕ) → Option Nsec3Value
with_next bytes salt None = None
with_next bytes salt (Some next) = Some (record {
  algorithm = slice_index bytes 0;
  flags = slice_index bytes 1;
  iterations = 256 * slice_index bytes 2 + slice_index bytes 3;
  salt = salt;
  next = next.0;
  bits = next.1;
})

abbrev pub with_salt : List ℕ → Option (List ℕ × List ℕ) → Option Nsec3Value
with_salt bytes None = None
with_salt bytes (Some salt) = with_next bytes salt.0 (counted salt.1)

-- four octets, and then a salt, a hash and the bits of types
abbrev pub read_nsec3 : List ℕ → Option Nsec3Value
read_nsec3 bytes = if nat_lt (length bytes) 4 then None else with_salt bytes (counted (drop 4 bytes))

-- SHA-1 is the only algorithm (section 11), a flag other than that of opt-out is not known (section 8.2), and of more
-- than 100 iterations a resolver makes nothing (RFC 9276, section 3.2)
abbrev pub is_usable : Nsec3Value → Bool
is_usable n = (n.algorithm == 1) && nat_le n.flags 1 && nat_le n.iterations 100

-- names of unsigned zones may be left out (section 6)
abbrev pub is_opt_out : Nsec3Value → Bool
is_opt_out n = n.flags == 1

-- ---- chains: the records of a zone whose names are hashed alike (section 7.1)

pub record ChainValue : Type 0 where
  pub zone : NameValue
  pub iterations : ℕ
  pub salt : List ℕ

abbrev pub chain_by : NameValue → Option Nsec3Value → Option ChainValue
chain_by zone None = None
chain_by zone (Some n) =
    if is_usable n then Some (record { zone = zone; iterations = n.iterations; salt = n.salt }) else None

-- the chain of a zone that a record with these data belongs to, where denials may be made of it
abbrev pub chain_of : NameValue → List ℕ → Option ChainValue
chain_of zone bytes = chain_by zone (read_nsec3 bytes)

-- the owner is directly below the zone of the chain, and names are hashed as the chain's are
abbrev pub is_in_chain : ChainValue → NameValue → Nsec3Value → Bool
is_in_chain chain owner n =
    is_usable n && (n.iterations == chain.iterations) && pointwise nat_eq n.salt chain.salt
    && (length owner.labels == length chain.zone.labels + 1) && is_zone_of chain.zone owner

-- how the names of a chain are hashed, as octets: the iterations in two of them, and the salt
abbrev pub chain_octets : ChainValue → List ℕ
chain_octets chain = chain.iterations / 256 ∷ chain.iterations % 256 ∷ chain.salt

-- the chain of a zone whose names are hashed so
abbrev pub read_chain : NameValue → List ℕ → Option ChainValue
read_chain zone octets =
    if nat_lt (length octets) 2 then None else Some (record {
      zone = zone;
      iterations = 256 * slice_index octets 0 + slice_index octets 1;
      salt = drop 2 octets;
    })

-- ---- hashes of names (section 5)

-- the digest of some octets and the salt, and of it and the salt so many times more
unfoldable pub iterated : List ℕ → ℕ → List ℕ → List ℕ
iterated salt zero octets = sha1 (octets ++ salt)
iterated salt (suc more) octets = sha1 (iterated salt more octets ++ salt)

-- the name with `*` before it: that of a wildcard
abbrev pub starred : Bool → List (List ℕ) → List (List ℕ)
starred true labels = codes "*" ∷ labels
starred false labels = labels

abbrev pub hash_of : ChainValue → List (List ℕ) → List ℕ
hash_of chain labels = iterated chain.salt chain.iterations (canonical_form labels)

abbrev pub name_unless : Option NameError → List (List ℕ) → Option NameValue
name_unless (Some fault) labels = None
name_unless None labels = Some (record { labels = labels; fqdn = true })

-- the owner that a hash has in the zone of the chain
abbrev pub owner_of : ChainValue → List ℕ → Option NameValue
owner_of chain hash =
    let labels = base32hex hash ∷ chain.zone.labels in name_unless (label_fault labels) labels

-- the owner of the record of a name, or of its wildcard, where it has one
abbrev pub hashed_owner : ChainValue → Bool → NameValue → Option NameValue
hashed_owner chain star name = owner_of chain (hash_of chain (starred star name.labels))

-- ---- what a record says of the owner of a hash

-- it is the closest encloser of names below it: neither is it delegated, nor has it a DNAME record (section 8.3)
abbrev pub encloses : ChainValue → NameValue → NameValue → Option Nsec3Value → Bool
encloses chain hashed owner None = false
encloses chain hashed owner (Some n) =
    name_eq owner hashed && is_in_chain chain owner n && not (is_delegation n.bits || has_type 39 n.bits)

-- its name has no records of a type (section 8.5)
abbrev pub is_bare : ChainValue → NameValue → ℕ → NameValue → Option Nsec3Value → Bool
is_bare chain hashed code owner None = false
is_bare chain hashed code owner (Some n) = name_eq owner hashed && is_in_chain chain owner n && lacks_type n.bits code

-- an owner is between two in the order of the hashes; the last record of a zone names the first
abbrev pub is_between_owners : NameValue → NameValue → NameValue → Bool
is_between_owners owner next hashed =
    if is_before owner next then is_before owner hashed && is_before hashed next
    else is_before owner hashed || is_before hashed next

abbrev pub is_between_if : NameValue → NameValue → Option NameValue → Bool
is_between_if owner hashed None = false
is_between_if owner hashed (Some next) = is_between_owners owner next hashed

-- no name has this hash, not even one of an unsigned zone (RFC 8198, section 5.2)
abbrev pub covers : ChainValue → NameValue → NameValue → Option Nsec3Value → Bool
covers chain hashed owner None = false
covers chain hashed owner (Some n) =
    is_in_chain chain owner n && not (is_opt_out n) && is_between_if owner hashed (owner_of chain n.next)
