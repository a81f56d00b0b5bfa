-- What holds of every question.
use Rattle.std.specs.Prelude.{◌≡◌, ℕ, Ok, Err}
use Rattle.std.specs.Option.{option_map}
use Rattle.hickory_proto_core.specs.codes.dns_class.DNSClass.TheVariants as class
use Rattle.hickory_proto_core.specs.codes.response_code.ResponseCode.{ResponseCode}
use Rattle.hickory_proto_core.specs.codes.response_code.ResponseCode.TheVariants as response
use Rattle.hickory_proto_core.specs.declared.net_error.NetError.{NetError}
use Rattle.hickory_proto_core.specs.declared.net_error.NetError.TheVariants.{Dns}
use Rattle.hickory_proto_core.specs.declared.net_error.DnsError.TheVariants.{NoRecordsFound}
use Rattle.hickory_proto_core.specs.declared.query.Query.{Query}
use Rattle.hickory_resolver_model.specs.Lookup.{LookupResult}
use Rattle.hickory_resolver_model.specs.SpecialUse.{special_use_result}
use Rattle.whole_replies.specs.Kept.{KeptValue}
use Rattle.local_answers.specs.Replies.{answer, no_records}
use Rattle.local_answers.specs.Special.{special_reply}

-- what a look-up comes to, as a reply: its records, or none with the code of a negative answer
abbrev pub code_of : NetError → ResponseCode
code_of (Dns (NoRecordsFound none)) = none.response_code
code_of other = response.ServFail

abbrev pub as_reply : LookupResult → KeptValue
as_reply (Ok found) = answer found.message.answers
as_reply (Err error) = no_records (code_of error)

-- special names are told as a resolver answers them
abbrev pub TellsSpecialNames : Type 0
TellsSpecialNames =
    (q : Query) (now : ℕ) → q.query_class ≡ class.IN
    → special_reply q ≡ option_map as_reply (special_use_result q now)
