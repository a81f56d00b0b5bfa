-- Replies that are made here.
use Rattle.std.specs.Prelude.{ℕ, false, List, [], ◌∷◌, None}
use Rattle.hickory_proto_core.specs.Records.{RecordValue, DataValue}
use Rattle.hickory_proto_core.specs.codes.response_code.ResponseCode.{ResponseCode}
use Rattle.hickory_proto_core.specs.codes.response_code.ResponseCode.TheVariants as response
use Rattle.hickory_proto_core.specs.declared.query.Query.{Query}
use Rattle.whole_replies.specs.Kept.{KeptValue, seconds_of}

-- the reply with these records, for as long as the least of their TTLs; without records it is not kept
abbrev pub reply : ResponseCode → List RecordValue → List RecordValue → KeptValue
reply code answers authorities = record {
  code = code;
  authentic_data = false;
  answers = answers;
  authorities = authorities;
  seconds = seconds_of None answers authorities;
}

abbrev pub answer : List RecordValue → KeptValue
answer records = reply response.NoError records []

abbrev pub no_records : ResponseCode → KeptValue
no_records code = reply code [] []

-- a negative answer, with the SOA record of its zone (RFC 2308, section 3)
abbrev pub denial : ResponseCode → RecordValue → KeptValue
denial code start = reply code [] (start ∷ [])

-- a record of the name and the class that are asked
abbrev pub record_at : Query → ℕ → DataValue → RecordValue
record_at q ttl rdata = record { name = q.name; dns_class = q.query_class; ttl = ttl; rdata = rdata }
