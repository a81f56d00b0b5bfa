-- The replies to questions about special names, where memory may run out.
use Rattle.std.specs.Prelude.{◌≡◌, ◌⊎◌, ℕ, Option, Some, None, Ok, Err}
use Rattle.std.specs.Option.{option_map_or}
use Rattle.hickory_proto_core.specs.Codes.{type_code}
use Rattle.hickory_proto_core.specs.declared.query.Query.{Query}
use Rattle.hickory_proto_core.specs.codes.response_code.ResponseCode.TheVariants.{NoError}
use Rattle.hickory_proto_core.specs.declared.net_error.NetError.TheVariants.{OutOfMemory}
use Rattle.hickory_resolver_model.specs.Lookup.{LookupResult}
use Rattle.hickory_resolver_model.specs.SpecialUse.{loopback_data, one_record, no_records}

-- this result, or out of memory
abbrev pub IsUnlessOut : LookupResult → LookupResult → Type 0
IsUnlessOut wanted result = (result ≡ wanted) ⊎ (result ≡ Err OutOfMemory)

-- the reply, where the name is special, or out of memory for it
abbrev pub IsSpecialReply : Option LookupResult → Option LookupResult → Type 0
IsSpecialReply None got = got ≡ None
IsSpecialReply (Some reply) got = (got ≡ Some reply) ⊎ (got ≡ Some (Err OutOfMemory))

-- what a question about a loopback name comes to
abbrev pub loopback_result : Query → ℕ → LookupResult
loopback_result q now =
    option_map_or (λ rdata. Ok (one_record q rdata now)) (loopback_data (type_code q.query_type))
    (Err (no_records q NoError))
