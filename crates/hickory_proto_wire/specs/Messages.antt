-- Messages on the wire (RFC 1035, section 4.1; RFC 4035, section 3.1.6 for AD and CD).
use Rattle.std.specs.Prelude.{ℕ, ◌+◌, ◌*◌, ◌/◌, ◌%◌, Bool, List, Option, None, Some, Result, Ok, Err, nat_lt, ◌==◌, if◌then◌else◌}
use Rattle.std.specs.Option.{option_map}
use Rattle.hickory_proto_codes.specs.Codes.{op_of, response_of}
use Rattle.hickory_proto_core.specs.Records.{RecordValue}
use Rattle.hickory_proto_core.specs.declared.query.Query.{Query}
use Rattle.hickory_proto_core.specs.declared.message.Metadata.{Metadata}
use Rattle.hickory_proto_wire.specs.declared.wire_error.WireFault.{WireFault}
use Rattle.hickory_proto_wire.specs.declared.wire_error.WireFault.TheVariants.{TooManyLabels}
use Rattle.hickory_proto_wire.specs.declared.wire_record.OptRecord.{OptRecord}
use Rattle.hickory_proto_wire.specs.declared.header.Header.{Header}
use Rattle.hickory_proto_wire.specs.declared.wire_message.WireMessage.{WireMessage}
use Rattle.hickory_proto_wire.specs.Octets.{◌>>=◌, u16_at}
use Rattle.hickory_proto_wire.specs.Found.{Found}
use Rattle.hickory_proto_wire.specs.LabelsTaken.{most_labels, labels_taken}
use Rattle.hickory_proto_wire.specs.Records.{repeat_at, query_at, record_at, additionals_at, nothing_found}

-- the header: six numbers of 16 bits
unfoldable pub header_at : List ℕ → Result Header WireFault
header_at bytes = do
  id ← u16_at bytes 0
  flags ← u16_at bytes 2
  queries ← u16_at bytes 4
  answers ← u16_at bytes 6
  authorities ← u16_at bytes 8
  additionals ← u16_at bytes 10
  Ok (record {
    id = id.0;
    flags = flags.0;
    queries = queries.0;
    answers = answers.0;
    authorities = authorities.0;
    additionals = additionals.0;
  })

-- the bit of this weight is set
abbrev pub bit : ℕ → ℕ → Bool
bit weight n = n / weight % 2 == 1

-- the upper eight bits of the response code, which are 0 without OPT (RFC 6891, section 6.1.3)
abbrev pub extended_of : Option OptRecord → ℕ
extended_of None = 0
extended_of (Some opt) = opt.extended

unfoldable pub metadata_of : Header → ℕ → Metadata
metadata_of header extended = record {
  id = header.id;
  op_code = op_of (header.flags / 2048 % 16);
  authoritative = bit 1024 header.flags;
  truncation = bit 512 header.flags;
  recursion_desired = bit 256 header.flags;
  recursion_available = bit 128 header.flags;
  response_code = response_of (extended * 16 + header.flags % 16);
}

-- the message of these parts
unfoldable pub assembled : Header → List Query → List RecordValue → List RecordValue → Found → WireMessage
assembled header queries answers authorities found = record {
  is_response = bit 32768 header.flags;
  reserved = bit 64 header.flags;
  authentic_data = bit 32 header.flags;
  checking_disabled = bit 16 header.flags;
  edns = option_map (λ opt. opt.edns) found.opt;
  message = record {
    metadata = metadata_of header (extended_of found.opt);
    queries = queries;
    answers = answers;
    authorities = authorities;
    additionals = found.records;
  };
}

-- The message that the bytes spell, or the first fault from left to right. Octets behind the message say nothing.
unfoldable pub spelled_message : List ℕ → Result WireMessage WireFault
spelled_message bytes = do
  header ← header_at bytes
  queries ← repeat_at (query_at bytes) header.queries 12
  answers ← repeat_at (record_at bytes) header.answers queries.1
  authorities ← repeat_at (record_at bytes) header.authorities answers.1
  additionals ← additionals_at header.additionals bytes authorities.1 nothing_found
  Ok (assembled header queries.0 answers.0 authorities.0 additionals.0)

-- What is read of the bytes: that message, unless its names take too many labels before its first fault.
unfoldable pub message_of : List ℕ → Result WireMessage WireFault
message_of bytes = do
  header ← header_at bytes
  if nat_lt most_labels (labels_taken bytes header) then Err TooManyLabels else spelled_message bytes
