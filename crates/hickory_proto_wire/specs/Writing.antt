-- Octets that stand in a message, by what the reader reads of them, and the parts of a message that is written.
use Rattle.std.specs.Prelude.{◌≡◌, ℕ, ◌+◌, ◌-◌, ◌*◌, ◌/◌, ◌%◌, ◌≤◌, ◌<◌, List, [], ◌∷◌, ◌++◌, length, take, map, Option, None, Some, Result, Ok, Bool, true, false, ◌==◌, if◌then◌else◌, nat_lt, ◌||◌}
use Rattle.std.specs.List.{flat_map}
use Rattle.std.specs.Option.{option_map}
use Rattle.hickory_proto_codes.specs.Codes.{type_code, type_of, class_code, class_of, op_code, op_of, response_code, response_of}
use Rattle.hickory_proto_core.specs.declared.message.Metadata.{Metadata}
use Rattle.hickory_proto_wire.specs.Edns.{EdnsValue}
use Rattle.hickory_proto_wire.specs.declared.header.Header.{Header}
use Rattle.hickory_proto_wire.specs.Messages.{extended_of}
use Rattle.hickory_proto_wire.specs.Records.{head_at, record_from, opt_from}
use Rattle.hickory_proto_wire.specs.declared.wire_record.OptRecord.{OptRecord}
use Rattle.hickory_proto_wire.specs.declared.wire_message.WireMessage.{WireMessage}
use Rattle.hickory_proto_core.specs.declared.query.Query.{Query}
use Rattle.hickory_proto_core.specs.Records.{RecordValue, DataValue, a_data, aaaa_data, cname_data, ns_data, ptr_data, soa_data, srv_data, mx_data, txt_data, unknown_data}
use Rattle.hickory_proto_wire.specs.declared.wire_error.WireFault.{WireFault}
use Rattle.hickory_proto_wire.specs.Octets.{◌>>=◌}
use Rattle.hickory_proto_wire.specs.RecordData.{data_at}

-- these octets are the first, and these stand at a position
abbrev pub Begins : List ℕ → List ℕ → Type 0
Begins known bytes = (rest : List ℕ) × (bytes ≡ known ++ rest)

abbrev pub Stands : List ℕ → List ℕ → ℕ → Type 0
Stands octets bytes at = (front : List ℕ) × (rest : List ℕ) × (bytes ≡ front ++ (octets ++ rest)) × (length front ≡ at)

-- Wherever the octets stand behind the known ones, reading gives the value, and the position behind the octets.
abbrev pub Spells : {A : Type 0} → (List ℕ → ℕ → Result (A × ℕ) WireFault) → List ℕ → List ℕ → A → Type 0
Spells read known octets x =
    (bytes : List ℕ) (at : ℕ) → Begins known bytes → length known ≤ at → Stands octets bytes at
    → read bytes at ≡ Ok (x, at + length octets)

-- new is old and octets behind it that spell the value
abbrev pub Adds : {A : Type 0} → (List ℕ → ℕ → Result (A × ℕ) WireFault) → List ℕ → List ℕ → List ℕ → A → Type 0
Adds read known old new x = (octets : List ℕ) × (new ≡ old ++ octets) × Spells read known octets x

-- numbers of 16 and of 32 bits, the high octet first
abbrev pub u16_octets : ℕ → List ℕ
u16_octets n = n / 256 ∷ n % 256 ∷ []

-- a pointer to a position (RFC 1035, section 4.1.4)
abbrev pub pointer_octets : ℕ → List ℕ
pointer_octets target = (target / 256 % 64 + 192) ∷ target % 256 ∷ []

-- a string behind its length, and labels so, one behind the other
abbrev pub counted : List ℕ → List ℕ
counted octets = length octets ∷ octets

abbrev pub run_of : List (List ℕ) → List ℕ
run_of labels = flat_map counted labels

-- the code of the type of data
abbrev pub data_code : DataValue → ℕ
data_code (a_data octets) = 1
data_code (ns_data target) = 2
data_code (cname_data target) = 5
data_code (soa_data mname rname serial refresh retry expire minimum) = 6
data_code (ptr_data target) = 12
data_code (mx_data preference exchange) = 15
data_code (txt_data strings) = 16
data_code (aaaa_data segments) = 28
data_code (srv_data priority weight port target) = 33
data_code (unknown_data code octets) = code

-- the types whose data are parsed
abbrev pub is_parsed : ℕ → Bool
is_parsed code =
    if code == 1 then true else (
    if code == 2 then true else (
    if code == 5 then true else (
    if code == 6 then true else (
    if code == 12 then true else (
    if code == 15 then true else (
    if code == 16 then true else (
    if code == 28 then true else (
    if code == 33 then true else false))))))))

-- Wherever the octets stand behind the known ones and end the bytes, the reader of data gives these.
abbrev pub SpellsData : List ℕ → List ℕ → DataValue → Type 0
SpellsData known octets x =
    (bytes : List ℕ) (at : ℕ) → Begins known bytes → length known ≤ at → Stands octets bytes at
    → length bytes ≡ at + length octets → data_at (data_code x) bytes at ≡ Ok (x, at + length octets)

abbrev pub AddsData : List ℕ → List ℕ → List ℕ → DataValue → Type 0
AddsData known old new x = (octets : List ℕ) × (new ≡ old ++ octets) × SpellsData known octets x

-- a question and a record as they are read again: a code that has a name by its name
abbrev pub named_query : Query → Query
named_query q = record {
  name = q.name;
  query_type = type_of (type_code q.query_type);
  query_class = class_of (class_code q.query_class);
}

abbrev pub named_record : RecordValue → RecordValue
named_record r = record {
  name = r.name;
  dns_class = class_of (class_code r.dns_class);
  ttl = r.ttl;
  rdata = r.rdata;
}

-- new is old and octets behind it, and in all bytes that begin with new the value is read where old ends, up to
-- where new ends
abbrev pub Follows : {A : Type 0} → (List ℕ → ℕ → Result (A × ℕ) WireFault) → List ℕ → List ℕ → A → Type 0
Follows read old new x =
    (octets : List ℕ) × (new ≡ old ++ octets)
    × ((bytes : List ℕ) → Begins new bytes → read bytes (length old) ≡ Ok (x, length new))

-- a record and the code of its type
unfoldable pub coded_at : List ℕ → ℕ → Result ((ℕ × RecordValue) × ℕ) WireFault
coded_at bytes at = do
  head ← head_at bytes at
  found ← record_from bytes head
  Ok ((head.code, found), head.end)

-- the weight of a bit that is set
abbrev pub weighed : Bool → ℕ → ℕ
weighed set weight = if set then weight else 0

-- the second number of the header (RFC 1035, section 4.1.1)
abbrev pub flags_of : WireMessage → Bool → ℕ → ℕ → ℕ
flags_of m truncated op code =
    weighed m.is_response 32768 + op * 2048 + weighed m.message.metadata.authoritative 1024 + weighed truncated 512
    + weighed m.message.metadata.recursion_desired 256 + weighed m.message.metadata.recursion_available 128
    + weighed m.reserved 64 + weighed m.authentic_data 32 + weighed m.checking_disabled 16 + code

-- what is read again of a message that was written with these records
abbrev pub named_metadata : Metadata → Bool → Metadata
named_metadata metadata truncated = record {
  id = metadata.id;
  op_code = op_of (op_code metadata.op_code);
  authoritative = metadata.authoritative;
  truncation = truncated;
  recursion_desired = metadata.recursion_desired;
  recursion_available = metadata.recursion_available;
  response_code = response_of (response_code metadata.response_code);
}

abbrev pub shown : WireMessage → Bool → List RecordValue → List RecordValue → List RecordValue → WireMessage
shown m truncated answers authorities additionals = record {
  is_response = m.is_response;
  reserved = m.reserved;
  authentic_data = m.authentic_data;
  checking_disabled = m.checking_disabled;
  edns = m.edns;
  message = record {
    metadata = named_metadata m.message.metadata truncated;
    queries = map named_query m.message.queries;
    answers = map named_record answers;
    authorities = map named_record authorities;
    additionals = map named_record additionals;
  };
}

-- the OPT record of a message
abbrev pub opt_of : Option EdnsValue → ℕ → Option OptRecord
opt_of edns extended = option_map (λ e. record { extended = extended; edns = e }) edns

-- an OPT record and the code of its type
unfoldable pub opt_at : List ℕ → ℕ → Result ((ℕ × OptRecord) × ℕ) WireFault
opt_at bytes at = do
  head ← head_at bytes at
  opt ← opt_from bytes head
  Ok ((head.code, opt), head.end)

abbrev pub opt_count : Option EdnsValue → ℕ
opt_count None = 0
opt_count (Some edns) = 1

-- the header of a message with so many records, and the upper bits of its response code
pub record IsHeader (m : WireMessage) (truncated : Bool) (answer_count authority_count additional_count : ℕ)
    (header : Header) (extended : ℕ) : Type 0 where
  pub id : header.id ≡ m.message.metadata.id
  pub op : op_code m.message.metadata.op_code < 16
  pub flags : header.flags
      ≡ flags_of m truncated (op_code m.message.metadata.op_code) (response_code m.message.metadata.response_code % 16)
  pub code : extended_of (opt_of m.edns extended) * 16 + response_code m.message.metadata.response_code % 16
      ≡ response_code m.message.metadata.response_code
  pub queries : header.queries ≡ length m.message.queries
  pub answers : header.answers ≡ answer_count
  pub authorities : header.authorities ≡ authority_count
  pub additionals : header.additionals ≡ additional_count + opt_count m.edns

-- what is read again where only the first records were kept, the others of all sections left out: where there are
-- any, the message says that it was cut
abbrev pub record_count : WireMessage → ℕ
record_count m = length m.message.answers + length m.message.authorities + length m.message.additionals

abbrev pub cut : WireMessage → ℕ → WireMessage
cut m kept =
    shown m (m.message.metadata.truncation || nat_lt kept (record_count m))
    (take kept m.message.answers)
    (take (kept - length m.message.answers) m.message.authorities)
    (take (kept - length m.message.answers - length m.message.authorities) m.message.additionals)
