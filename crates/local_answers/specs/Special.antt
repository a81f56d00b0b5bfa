-- Names that are answered without asking, as the core answers them (RFC 6761, sections 6.3 and 6.4; RFC 7686, section
-- 2).
use Rattle.std.specs.Prelude.{[], ◌∷◌, Option, None, Some, if◌then◌else◌}
use Rattle.std.specs.Option.{option_map_or}
use Rattle.hickory_proto_core.specs.Codes.{type_code}
use Rattle.hickory_proto_core.specs.codes.response_code.ResponseCode.TheVariants as response
use Rattle.hickory_proto_core.specs.declared.query.Query.{Query}
use Rattle.hickory_resolver_model.specs.Bounds.{day}
use Rattle.hickory_resolver_model.specs.SpecialUse.{is_loopback_name, is_nonexistent_name, loopback_data}
use Rattle.whole_replies.specs.Kept.{KeptValue}
use Rattle.local_answers.specs.Replies.{answer, no_records, record_at}

-- the record that a loopback name has of the asked type, for a day, or no records
abbrev pub loopback_reply : Query → KeptValue
loopback_reply q =
    option_map_or (λ rdata. answer (record_at q day rdata ∷ [])) (loopback_data (type_code q.query_type))
    (no_records response.NoError)

abbrev pub special_reply : Query → Option KeptValue
special_reply q =
    if is_loopback_name q.name then Some (loopback_reply q)
    else (if is_nonexistent_name q.name then Some (no_records response.NXDomain) else None)
