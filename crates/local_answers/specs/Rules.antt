-- What is said below a domain: an empty zone is served (RFC 6303, section 3), or names are blocked.
use Rattle.std.specs.Prelude.{ℕ, ◌+◌, ◌-◌, ◌==◌, List, [], ◌∷◌, codes, length, Option, None, Some, if◌then◌else◌}
use Rattle.std.specs.Option.{option_map_or}
use Rattle.hickory_proto_core.specs.Codes.{type_code}
use Rattle.hickory_proto_core.specs.Name.{NameValue, is_zone_of}
use Rattle.hickory_proto_core.specs.Records.{DataValue, RecordValue, a_data, aaaa_data, ns_data, soa_data}
use Rattle.hickory_proto_core.specs.ResponseKind.{asks_for}
use Rattle.hickory_proto_core.specs.codes.record_type.RecordType.TheVariants as type
use Rattle.hickory_proto_core.specs.codes.response_code.ResponseCode.{ResponseCode}
use Rattle.hickory_proto_core.specs.codes.response_code.ResponseCode.TheVariants as response
use Rattle.hickory_proto_core.specs.declared.query.Query.{Query}
use Rattle.hickory_resolver_model.specs.SpecialUse.{full_name}
use Rattle.whole_replies.specs.Kept.{KeptValue}
use Rattle.local_answers.specs.Replies.{answer, denial, record_at}
use Rattle.local_answers.specs.declared.choices.TheConstants.{BLOCKED_SECONDS, SERVED_SECONDS}
use Rattle.local_answers.specs.declared.rules.Blocked.{Blocked}
use Rattle.local_answers.specs.declared.rules.Blocked.TheVariants.{NoName, NoData, NullAddress}

-- the labels of a name that stand behind so many octets: each takes its own, and one for its length
abbrev pub labels_from : ℕ → List (List ℕ) → List (List ℕ)
labels_from place [] = []
labels_from place (label ∷ labels) =
    if place == 0 then label ∷ labels else labels_from (place - (length label + 1)) labels

-- the domain that begins at a place of the name that is asked
abbrev pub zone_name : Query → ℕ → NameValue
zone_name q place = full_name (labels_from place q.name.labels)

abbrev pub nobody : NameValue
nobody = full_name (codes "nobody" ∷ codes "invalid" ∷ [])

-- the SOA record of an empty zone, which is kept for so many seconds, as is what it denies
abbrev pub start_of : Query → NameValue → ℕ → RecordValue
start_of q zone seconds = record {
  name = zone;
  dns_class = q.query_class;
  ttl = seconds;
  rdata = soa_data zone nobody 1 3600 1200 604800 seconds;
}

abbrev pub resolver_zone : NameValue
resolver_zone = full_name (codes "resolver" ∷ codes "arpa" ∷ [])

-- How the other names of a zone are denied: they do not exist. Those below resolver.arpa. have no records, so that a
-- client learns that no encrypted resolver is designated here (RFC 9462, section 4).
abbrev pub code_below : NameValue → ResponseCode
code_below name = if is_zone_of resolver_zone name then response.NoError else response.NXDomain

-- The zone has its own name, with an SOA and an NS record, and no other names.
abbrev pub served_reply : Query → ℕ → KeptValue
served_reply q place =
    let zone = zone_name q place in
    let start = start_of q zone SERVED_SECONDS in
    if place == 0
    then (if asks_for type.SOA q then answer (start ∷ [])
    else (if asks_for type.NS q then answer (record_at q SERVED_SECONDS (ns_data zone) ∷ [])
    else denial response.NoError start))
    else denial (code_below q.name) start

abbrev pub blocked_denial : Query → ℕ → ResponseCode → KeptValue
blocked_denial q place code = denial code (start_of q (zone_name q place) BLOCKED_SECONDS)

-- the null address of a type, by its code
abbrev pub null_address : ℕ → Option DataValue
null_address code =
    if code == type_code type.A then Some (a_data (0 ∷ 0 ∷ 0 ∷ 0 ∷ []))
    else (if code == type_code type.AAAA then Some (aaaa_data (0 ∷ 0 ∷ 0 ∷ 0 ∷ 0 ∷ 0 ∷ 0 ∷ 0 ∷ [])) else None)

abbrev pub blocked_reply : Query → ℕ → Blocked → KeptValue
blocked_reply q place NoName = blocked_denial q place response.NXDomain
blocked_reply q place NoData = blocked_denial q place response.NoError
blocked_reply q place NullAddress =
    option_map_or (λ rdata. answer (record_at q BLOCKED_SECONDS rdata ∷ [])) (null_address (type_code q.query_type))
    (blocked_denial q place response.NoError)
