-- What is kept of a reply as octets.
use Rattle.std.specs.Prelude.{ℕ, ◌+◌, ◌*◌, ◌-◌, ◌^◌, ◌≡◌, ◌≢◌, Bool, true, false, List, [], ◌∷◌, length, map, min, nat_lt, nat_le, Option, None, Some, Result, Ok, Err, is_ok, if◌then◌else◌}
use Rattle.std.specs.Option.{option_map, option_or}
use Rattle.hickory_proto_codes.specs.Codes.{response_code, response_of}
use Rattle.hickory_proto_codes.specs.declared.op_code.OpCode.TheVariants as kind
use Rattle.hickory_proto_codes.specs.declared.record_type.RecordType.TheVariants as type
use Rattle.hickory_proto_codes.specs.declared.dns_class.DNSClass.TheVariants as class
use Rattle.hickory_proto_codes.specs.declared.response_code.ResponseCode.TheVariants as code
use Rattle.hickory_proto_core.specs.Messages.{response_metadata}
use Rattle.hickory_proto_core.specs.declared.query.Query.{Query}
use Rattle.hickory_proto_wire.specs.Messages.{message_of}
use Rattle.hickory_proto_wire.specs.Refused.{wire_fault}
use Rattle.hickory_proto_wire.specs.Writing.{named_query, named_record, record_count}
use Rattle.hickory_proto_wire.specs.Written.{octets_of}
use Rattle.hickory_proto_wire.specs.declared.wire_error.WireFault.{WireFault}
use Rattle.hickory_proto_wire.specs.declared.wire_message.WireMessage.{WireMessage}
use Rattle.whole_replies.specs.Kept.{KeptValue, aged}
use Rattle.stored_replies.specs.declared.choices.TheConstants.{LONGEST, REPLY, PLACE}
use Rattle.stored_replies.specs.declared.store_error.StoreError.{StoreError}
use Rattle.stored_replies.specs.declared.store_error.StoreError.TheVariants.{OutOfMemory, Unwritable, TooLong}

-- the question, what is kept of its reply, and the second at which it was stored
pub record StoredValue : Type 0 where
  pub query : Query
  pub kept : KeptValue
  pub moment : ℕ

-- ---- what is written when it is stored

-- a response of this question and these records, without OPT, and without flags but AD
abbrev pub response_to : Query → KeptValue → WireMessage
response_to q k = record {
  is_response = true;
  reserved = false;
  authentic_data = k.authentic_data;
  checking_disabled = false;
  edns = None;
  message = record {
    metadata = record (response_metadata 0 kind.Query) { response_code = k.code };
    queries = q ∷ [];
    answers = k.answers;
    authorities = k.authorities;
    additionals = [];
  };
}

-- the octets of a message of which no record is left out
unfoldable pub whole_octets : WireMessage → List ℕ
whole_octets m = octets_of m (record_count m)

-- Why it is not stored: `to_wire` refuses to write it, or it is too long for a message.
abbrev pub too_long : WireMessage → Option StoreError
too_long m = if nat_lt LONGEST (length (whole_octets m)) then Some TooLong else None

abbrev pub fault_of : WireMessage → Option StoreError
fault_of m = option_or (option_map Unwritable (wire_fault m LONGEST)) (too_long m)

abbrev pub store_fault : Query → KeptValue → Option StoreError
store_fault q k = fault_of (response_to q k)

-- the first fault, or none; a call that takes memory may also say that there is no more
abbrev pub Refuses : {A : Type 0} → Result A StoreError → Option StoreError → Type 0
Refuses (Ok x) fault = fault ≡ None
Refuses (Err e) fault = e ≢ OutOfMemory → fault ≡ Some e

-- As it is read again: each code that has a name by its name. What was read from octets stays as it is.
abbrev pub named_kept : KeptValue → KeptValue
named_kept k = record {
  code = response_of (response_code k.code);
  authentic_data = k.authentic_data;
  answers = map named_record k.answers;
  authorities = map named_record k.authorities;
  seconds = k.seconds;
}

abbrev pub stored_at : Query → KeptValue → ℕ → StoredValue
stored_at q k now = record { query = named_query q; kept = named_kept k; moment = now }

-- ---- what the octets say

abbrev pub root_query : Query
root_query = record { name = record { labels = []; fqdn = true }; query_type = type.A; query_class = class.IN }

abbrev pub first_query : List Query → Query
first_query [] = root_query
first_query (q ∷ qs) = q

abbrev pub said_by : WireMessage → ℕ → ℕ → StoredValue
said_by m seconds moment = record {
  query = first_query m.message.queries;
  kept = record {
    code = m.message.metadata.response_code;
    authentic_data = m.authentic_data;
    answers = m.message.answers;
    authorities = m.message.authorities;
    seconds = seconds;
  };
  moment = moment;
}

abbrev pub no_reply : ℕ → KeptValue
no_reply seconds = record {
  code = code.NoError;
  authentic_data = false;
  answers = [];
  authorities = [];
  seconds = seconds;
}

abbrev pub stored_in : Result WireMessage WireFault → ℕ → ℕ → StoredValue
stored_in (Ok m) seconds moment = said_by m seconds moment
stored_in (Err fault) seconds moment = record { query = root_query; kept = no_reply seconds; moment = moment }

-- ---- how long it may be told, and what it weighs

abbrev pub elapsed : StoredValue → ℕ → ℕ
elapsed s now = now - s.moment

-- the last second counts: then the least TTL is 0
abbrev pub is_current : StoredValue → ℕ → Bool
is_current s now = nat_le (elapsed s now) s.kept.seconds

-- the greatest number of 64 bits, where it is more
abbrev pub saturated : ℕ → ℕ
saturated n = min n (2 ^ 64 - 1)

abbrev pub until : StoredValue → ℕ
until s = saturated (s.moment + s.kept.seconds)

abbrev pub stored_octets : StoredValue → List ℕ
stored_octets s = whole_octets (response_to s.query s.kept)

abbrev pub record_number : KeptValue → ℕ
record_number k = length k.answers + length k.authorities

-- a constant, the octets, and a place for the TTL of each record
abbrev pub weight_of : StoredValue → ℕ
weight_of s = saturated (REPLY + length (stored_octets s) + PLACE * record_number s.kept)

-- ---- read again

-- Its octets are read where its names take no more labels than are read of one message.
abbrev pub is_readable : StoredValue → Bool
is_readable s = is_ok (message_of (stored_octets s))

-- what is kept of it, read again, as it has aged
abbrev pub read_at : ℕ → StoredValue → Option KeptValue
read_at now s = if is_readable s then Some (aged (elapsed s now) s.kept) else None
