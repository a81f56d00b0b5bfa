-- Why a message is not written: the first fault in the order of writing.
use Rattle.std.specs.Prelude.{◌≡◌, ◌≢◌, ℕ, ◌+◌, List, [], ◌∷◌, length, Option, None, Some, Result, Ok, Err, Bool, not, nat_lt, ◌==◌, if◌then◌else◌}
use Rattle.std.specs.Option.{option_or}
use Rattle.hickory_proto_names.specs.Name.{NameValue}
use Rattle.hickory_proto_codes.specs.Codes.{op_code, response_code}
use Rattle.hickory_proto_core.specs.declared.query.Query.{Query}
use Rattle.hickory_proto_core.specs.Records.{RecordValue, DataValue, a_data, aaaa_data, cname_data, ns_data, ptr_data, soa_data, srv_data, mx_data, txt_data, unknown_data}
use Rattle.hickory_proto_wire.specs.declared.to_wire_error.ToWireError.{ToWireError}
use Rattle.hickory_proto_wire.specs.declared.to_wire_error.ToWireError.TheVariants.{OutOfMemory, RelativeName, StringTooLong, KnownType, NotSpelledOut, OpCodeTooLarge, ResponseCodeTooLarge, TooManyRecords, LimitTooSmall, DataTooLong}
use Rattle.hickory_proto_wire.specs.declared.wire_message.WireMessage.{WireMessage}
use Rattle.hickory_proto_wire.specs.Edns.{EdnsValue}
use Rattle.hickory_proto_wire.specs.OldData.{is_spelled_out}
use Rattle.hickory_proto_wire.specs.Writing.{data_code, is_parsed, run_of, opt_count}
use Rattle.hickory_proto_wire.specs.Written.{octets_of}

abbrev pub fault_if : Bool → ToWireError → Option ToWireError
fault_if faulty e = if faulty then Some e else None

-- the first fault of a list
abbrev pub first_fault : {A E : Type 0} → (A → Option E) → List A → Option E
first_fault f [] = None
first_fault f (x ∷ xs) = option_or (f x) (first_fault f xs)

abbrev pub name_fault : NameValue → Option ToWireError
name_fault name = fault_if (not name.fqdn) RelativeName

-- a length of more than 16 bits
abbrev pub size_fault : ℕ → Option ToWireError
size_fault n = fault_if (nat_lt 65535 n) DataTooLong

abbrev pub string_fault : List ℕ → Option ToWireError
string_fault s = fault_if (nat_lt 255 (length s)) StringTooLong

-- Data that are not parsed may not have the type of data that are, and they are read as they stand.
abbrev pub data_fault : DataValue → Option ToWireError
data_fault (a_data octets) = None
data_fault (aaaa_data segments) = None
data_fault (cname_data target) = name_fault target
data_fault (ns_data target) = name_fault target
data_fault (ptr_data target) = name_fault target
data_fault (soa_data mname rname serial refresh retry expire minimum) =
    option_or (name_fault mname) (name_fault rname)
data_fault (srv_data priority weight port target) = name_fault target
data_fault (mx_data preference exchange) = name_fault exchange
data_fault (txt_data strings) = option_or (first_fault string_fault strings) (size_fault (length (run_of strings)))
data_fault (unknown_data code octets) =
    option_or (fault_if (is_parsed code) KnownType)
    (option_or (fault_if (not (is_spelled_out code octets)) NotSpelledOut) (size_fault (length octets)))

abbrev pub query_fault : Query → Option ToWireError
query_fault q = name_fault q.name

abbrev pub record_fault : RecordValue → Option ToWireError
record_fault r = option_or (name_fault r.name) (data_fault r.rdata)

abbrev pub record_data_fault : RecordValue → Option ToWireError
record_data_fault r = data_fault r.rdata

-- in the additional section OPT stands in a field of its own
abbrev pub additional_fault : RecordValue → Option ToWireError
additional_fault r =
    option_or (name_fault r.name) (option_or (fault_if (data_code r.rdata == 41) KnownType) (data_fault r.rdata))

abbrev pub opt_fault : Option EdnsValue → Option ToWireError
opt_fault None = None
opt_fault (Some e) = size_fault (length e.options)

-- a response code has 4 bits, and with OPT 12 (RFC 6891, section 6.1.3)
abbrev pub code_fault : Option EdnsValue → ℕ → Option ToWireError
code_fault None code = fault_if (nat_lt 15 code) ResponseCodeTooLarge
code_fault (Some e) code = fault_if (nat_lt 4095 code) ResponseCodeTooLarge

abbrev pub op_fault : ℕ → Option ToWireError
op_fault op = fault_if (nat_lt 15 op) OpCodeTooLarge

abbrev pub count_fault : ℕ → Option ToWireError
count_fault n = fault_if (nat_lt 65535 n) TooManyRecords

abbrev pub counts_fault : WireMessage → Option ToWireError
counts_fault m =
    option_or (count_fault (length m.message.queries)) (option_or (count_fault (length m.message.answers))
    (option_or (count_fault (length m.message.authorities))
    (count_fault (length m.message.additionals + opt_count m.edns))))

abbrev pub header_fault : WireMessage → Option ToWireError
header_fault m =
    option_or (op_fault (op_code m.message.metadata.op_code))
    (option_or (code_fault m.edns (response_code m.message.metadata.response_code)) (counts_fault m))

abbrev pub sections_fault : WireMessage → Option ToWireError
sections_fault m =
    option_or (first_fault query_fault m.message.queries) (option_or (first_fault record_fault m.message.answers)
    (option_or (first_fault record_fault m.message.authorities)
    (option_or (first_fault additional_fault m.message.additionals) (opt_fault m.edns))))

abbrev pub message_fault : WireMessage → Option ToWireError
message_fault m = option_or (header_fault m) (sections_fault m)

-- Header, questions and OPT are always written: where they are more than the limit, there is no message.
abbrev pub wire_fault : WireMessage → ℕ → Option ToWireError
wire_fault m limit = option_or (message_fault m) (fault_if (nat_lt limit (length (octets_of m 0))) LimitTooSmall)

-- a test says the first fault, or that there is none; a call that takes memory may also say that there is no more
abbrev pub Tests : Result (Unit {0}) ToWireError → Option ToWireError → Type 0
Tests (Ok u) fault = fault ≡ None
Tests (Err e) fault = fault ≡ Some e

abbrev pub Refuses : {A : Type 0} → Result A ToWireError → Option ToWireError → Type 0
Refuses (Ok x) fault = fault ≡ None
Refuses (Err e) fault = e ≢ OutOfMemory → fault ≡ Some e
