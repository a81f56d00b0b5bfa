-- Names that are answered without asking (RFC 6761, sections 6.3 and 6.4; RFC 7686, section 2). Nothing is
-- read from the cache for them, and nothing is stored.
use Rattle.std.specs.Prelude.{ℕ, Bool, true, ◌==◌, ◌||◌, List, [], ◌∷◌, ◌++◌, replicate, codes, Option, Some, None, Ok, Err, if◌then◌else◌}
use Rattle.std.specs.List.{list_any}
use Rattle.std.specs.Option.{option_map_or}
use Rattle.hickory_proto_core.specs.Name.{NameValue, is_zone_of, localhost}
use Rattle.hickory_proto_core.specs.Codes.{type_code, class_code}
use Rattle.hickory_proto_core.specs.Records.{DataValue, a_data, aaaa_data, ptr_data}
use Rattle.hickory_proto_core.specs.declared.query.Query.{Query}
use Rattle.hickory_proto_core.specs.codes.dns_class.DNSClass.TheVariants as class
use Rattle.hickory_proto_core.specs.codes.record_type.RecordType.TheVariants as type
use Rattle.hickory_proto_core.specs.codes.response_code.ResponseCode.{ResponseCode}
use Rattle.hickory_proto_core.specs.codes.response_code.ResponseCode.TheVariants.{NoError, NXDomain}
use Rattle.hickory_proto_core.specs.declared.net_error.NetError.{NetError}
use Rattle.hickory_proto_core.specs.declared.net_error.NetError.TheVariants.{Dns}
use Rattle.hickory_proto_core.specs.declared.net_error.DnsError.TheVariants.{NoRecordsFound}
use Rattle.hickory_resolver_model.specs.Bounds.{day}
use Rattle.hickory_resolver_model.specs.Lookup.{LookupValue, LookupResult, answers_for_day}

abbrev pub full_name : List (List ℕ) → NameValue
full_name labels = record { labels = labels; fqdn = true }

-- `localhost.` and the names of the loopback addresses 127.0.0.0/8 and ::1 (RFC 6303, sections 4.2 and 4.3)
abbrev pub loopback_zones : List NameValue
loopback_zones =
    localhost ∷ full_name (codes "127" ∷ codes "in-addr" ∷ codes "arpa" ∷ [])
    ∷ full_name (codes "1" ∷ (replicate 31 (codes "0") ++ codes "ip6" ∷ codes "arpa" ∷ [])) ∷ []

abbrev pub is_loopback_name : NameValue → Bool
is_loopback_name n = list_any (λ zone. is_zone_of zone n) loopback_zones

-- the names that do not exist
abbrev pub is_nonexistent_name : NameValue → Bool
is_nonexistent_name n =
    is_zone_of (full_name (codes "invalid" ∷ [])) n || is_zone_of (full_name (codes "onion" ∷ [])) n

-- the special names: a question about one, in the class of the Internet, is not asked
abbrev pub is_special_use : NameValue → Bool
is_special_use n = is_loopback_name n || is_nonexistent_name n

-- what the loopback names have, by the code of the type: A, AAAA and PTR
abbrev pub loopback_data : ℕ → Option DataValue
loopback_data code =
    if code == type_code type.A then Some (a_data (127 ∷ 0 ∷ 0 ∷ 1 ∷ []))
    else (if code == type_code type.AAAA then Some (aaaa_data (0 ∷ 0 ∷ 0 ∷ 0 ∷ 0 ∷ 0 ∷ 0 ∷ 1 ∷ []))
    else (if code == type_code type.PTR then Some (ptr_data localhost) else None))

-- one record of the question's name, for a day
abbrev pub one_record : Query → DataValue → ℕ → LookupValue
one_record q rdata now =
    answers_for_day q (record { name = q.name; dns_class = class.IN; ttl = day; rdata = rdata } ∷ []) now

-- a negative answer of which nothing else is known
abbrev pub no_records : Query → ResponseCode → NetError
no_records q code =
    Dns (NoRecordsFound (record {
      query = q;
      soa = None;
      ns = None;
      negative_ttl = None;
      response_code = code;
      authorities = None;
    }))

-- the reply to a question about a special name, in the class of the Internet: the loopback names have their
-- addresses, and nothing else; names under `invalid.` and `onion.` do not exist. Names under `local.` are as
-- any other
abbrev pub special_use_result : Query → ℕ → Option LookupResult
special_use_result q now =
    if class_code q.query_class == class_code class.IN
    then (if is_loopback_name q.name
    then Some (option_map_or (λ rdata. Ok (one_record q rdata now))
    (loopback_data (type_code q.query_type)) (Err (no_records q NoError)))
    else (if is_nonexistent_name q.name then Some (Err (no_records q NXDomain)) else None))
    else None
