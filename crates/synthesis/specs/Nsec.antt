-- What an NSEC record denies: it says which name of a zone comes next in canonical order, and of which types its owner
-- has records (RFC 4034, section 4). A resolver may make denials of it (RFC 8198, section 5).
use Rattle.std.specs.Prelude.{ℕ, Bool, true, false, not, ◌&&◌, ◌||◌, ◌==◌, List, Option, None, Some}
use Rattle.std.specs.declared.cmp.Ordering.{Ordering}
use Rattle.std.specs.declared.cmp.Ordering.TheVariants.{Less, Equal, Greater}
use Rattle.hickory_proto_core.specs.Name.{NameValue, is_zone_of, name_cmp, name_eq}
use Rattle.synthesis.specs.TypeBits.{has_type}
use Rattle.synthesis.specs.WireNames.{WireNameValue, read_name}

abbrev pub is_less : Ordering → Bool
is_less Less = true
is_less Equal = false
is_less Greater = false

-- in canonical order (RFC 4034, section 6.1)
abbrev pub is_before : NameValue → NameValue → Bool
is_before a b = is_less (name_cmp a b)

-- The name is behind the owner, and before the next one; or the next one is the apex of the zone, which it is in.
abbrev pub is_between : NameValue → NameValue → NameValue → Bool
is_between owner next name =
    is_before owner name && (is_before name next || (not (is_before owner next) && is_zone_of next name))

-- another zone begins at the owner: it has NS records and no SOA record
abbrev pub is_delegation : List ℕ → Bool
is_delegation bits = has_type 2 bits && not (has_type 6 bits)

-- what is below a delegation is in another zone, and what is below a DNAME record is elsewhere (RFC 6840, section 4.1)
abbrev pub is_hidden : NameValue → List ℕ → NameValue → Bool
is_hidden owner bits name = is_zone_of owner name && (is_delegation bits || has_type 39 bits)

-- no such name: it is between the two, and the next one is not below it
abbrev pub denies_name : NameValue → WireNameValue → NameValue → Bool
denies_name owner next name =
    is_between owner next.name name && not (is_zone_of name next.name) && not (is_hidden owner next.rest name)

-- the owner has neither the type nor an alias; at a delegation only DS records are of this zone (RFC 6840, section 4.4)
abbrev pub lacks_type : List ℕ → ℕ → Bool
lacks_type bits code = not (has_type code bits) && not (has_type 5 bits) && (not (is_delegation bits) || (code == 43))

-- the name has no records but what is below it, or it is the owner and lacks the type
abbrev pub denies_type : NameValue → WireNameValue → NameValue → ℕ → Bool
denies_type owner next name code =
    (is_between owner next.name name && is_zone_of name next.name && not (is_hidden owner next.rest name))
    || (name_eq owner name && lacks_type next.rest code)

abbrev pub name_denied_by : NameValue → Option WireNameValue → NameValue → Bool
name_denied_by owner None name = false
name_denied_by owner (Some next) name = denies_name owner next name

abbrev pub type_denied_by : NameValue → Option WireNameValue → NameValue → ℕ → Bool
type_denied_by owner None name code = false
type_denied_by owner (Some next) name code = denies_type owner next name code

-- an NSEC record of this owner and with these data says that there is no such name
abbrev pub is_name_denied : NameValue → List ℕ → NameValue → Bool
is_name_denied owner bytes name = name_denied_by owner (read_name bytes) name

-- it says that the name has no records of this type, by its code
abbrev pub is_type_denied : NameValue → List ℕ → NameValue → ℕ → Bool
is_type_denied owner bytes name code = type_denied_by owner (read_name bytes) name code
