-- The way of an answer: from the asked name, by aliases, to the name where they end (RFC 1034, section 3.6.2).
use Rattle.std.specs.Prelude.{ℕ, Bool, true, false, ◌&&◌, ◌||◌, ◌==◌, ◌+◌, ◌*◌, List, [], ◌∷◌, drop, not, Option, None, Some, if◌then◌else◌}
use Rattle.std.specs.List.{list_any, zip}
use Rattle.std.specs.Option.{is_some, option_map_or}
use Rattle.hickory_proto_core.specs.Codes.{type_code}
use Rattle.hickory_proto_core.specs.Name.{NameValue, name_eq, is_zone_of}
use Rattle.hickory_proto_core.specs.Records.{RecordValue, DataValue, cname_data, unknown_data}
use Rattle.hickory_proto_core.specs.ResponseKind.{is_any, is_asked, record_type_code}
use Rattle.hickory_proto_core.specs.declared.query.Query.{Query}
use Rattle.hickory_resolver_model.specs.AliasWalk.{follows_aliases, walk_of}
use Rattle.hickory_resolver_tries.specs.Chain.{alias_at, next_name}
use Rattle.hickory_resolver_tries.specs.Outcome.{at_name}

-- ---- the names on the way

abbrev pub with_name : Bool → NameValue → List NameValue → List NameValue
with_name true name names = name ∷ names
with_name false name names = names

-- from the name reached on: each name that has an alias, and the one where aliases end
abbrev pub names_from : NameValue → List RecordValue → List NameValue
names_from reached [] = reached ∷ []
names_from reached (r ∷ rs) = with_name (is_some (alias_at reached r)) reached (names_from (next_name reached r) rs)

abbrev pub names_of : Query → List RecordValue → List NameValue
names_of q answers = if follows_aliases q then names_from q.name answers else q.name ∷ []

-- ---- records of the way

abbrev pub points_to : NameValue → DataValue → Bool
points_to name (cname_data target) = name_eq target name
points_to name other = false

abbrev pub leads : NameValue → NameValue → RecordValue → Bool
leads from to r = name_eq from r.name && points_to to r.rdata

-- an alias from a name on the way to the next one
abbrev pub leads_along : List NameValue → RecordValue → Bool
leads_along names r = list_any (λ step. leads step.0 step.1 r) (zip names (drop 1 names))

-- its owner is a name on the way, or above one
abbrev pub is_above : List NameValue → RecordValue → Bool
is_above names r = list_any (is_zone_of r.name) names

-- DNAME (RFC 6672): of a name above one on the way it is what that one's alias was made of
abbrev pub DNAME : ℕ
DNAME = 39

abbrev pub is_below : NameValue → NameValue → Bool
is_below owner name = is_zone_of owner name && not (name_eq owner name)

abbrev pub redirects : List NameValue → RecordValue → Bool
redirects names r = (record_type_code r == DNAME) && list_any (is_below r.name) names

-- ---- signatures (RFC 4034, section 3)

abbrev pub RRSIG : ℕ
RRSIG = 46

-- the first two octets of the data of a signature: the type of the records that it signs
abbrev pub covered : List ℕ → Option ℕ
covered (high ∷ low ∷ rest) = Some (high * 256 + low)
covered other = None

abbrev pub covered_type : DataValue → Option ℕ
covered_type (unknown_data code bytes) = covered bytes
covered_type other = None

-- of an alias, of DNAME, or of the type that is asked
abbrev pub is_signed_type : Query → ℕ → Bool
is_signed_type q code = (code == 5) || (code == DNAME) || (code == type_code q.query_type) || is_any q

abbrev pub signs : Query → RecordValue → Bool
signs q r = option_map_or (is_signed_type q) (covered_type r.rdata) false

abbrev pub is_signature : Query → List NameValue → RecordValue → Bool
is_signature q names r = (record_type_code r == RRSIG) && signs q r && is_above names r

-- ---- what is kept of the answers

-- an alias on the way, what was asked for where it ends, DNAME; and their signatures, where DNSSEC records were asked
abbrev pub is_kept : Query → NameValue → Bool → List NameValue → RecordValue → Bool
is_kept q last dnssec names r =
    leads_along names r || is_asked (at_name q last) r || redirects names r || (dnssec && is_signature q names r)

abbrev pub is_kept_of : Query → List RecordValue → Bool → RecordValue → Bool
is_kept_of q answers dnssec r = is_kept q (walk_of q answers).last dnssec (names_of q answers) r
