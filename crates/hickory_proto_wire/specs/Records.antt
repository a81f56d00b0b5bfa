-- Questions and records on the wire (RFC 1035, sections 4.1.2 and 4.1.3), and OPT (RFC 6891, section 6.1).
use Rattle.std.specs.Prelude.{ℕ, zero, suc, ◌+◌, ◌-◌, ◌/◌, ◌%◌, List, [], ◌∷◌, ◌++◌, length, take, drop, None, Some, Result, Ok, Err, nat_lt, ◌==◌, if◌then◌else◌}
use Rattle.std.specs.Option.{is_some}
use Rattle.hickory_proto_codes.specs.Codes.{type_of, class_of}
use Rattle.hickory_proto_core.specs.Records.{RecordValue}
use Rattle.hickory_proto_core.specs.declared.query.Query.{Query}
use Rattle.hickory_proto_wire.specs.declared.wire_error.WireFault.{WireFault}
use Rattle.hickory_proto_wire.specs.declared.wire_error.WireFault.TheVariants.{Short, OptName, SecondOpt}
use Rattle.hickory_proto_wire.specs.declared.wire_record.RecordHead.{RecordHead}
use Rattle.hickory_proto_wire.specs.declared.wire_record.OptRecord.{OptRecord}
use Rattle.hickory_proto_wire.specs.Found.{Found}
use Rattle.hickory_proto_wire.specs.Octets.{◌>>=◌, u16_at, u32_at}
use Rattle.hickory_proto_wire.specs.Names.{name_at}
use Rattle.hickory_proto_wire.specs.RecordData.{record_data_at}

-- so many values, one behind the other
unfoldable pub repeat_at : {A : Type 0} → (ℕ → Result (A × ℕ) WireFault) → ℕ → ℕ → Result (List A × ℕ) WireFault
repeat_at read zero at = Ok ([], at)
repeat_at read (suc count) at = do
  first ← read at
  rest ← repeat_at read count first.1
  Ok (first.0 ∷ rest.0, rest.1)

-- a question: a name, a type and a class
unfoldable pub query_at : List ℕ → ℕ → Result (Query × ℕ) WireFault
query_at bytes at = do
  name ← name_at bytes at
  code ← u16_at bytes name.1
  class ← u16_at bytes code.1
  Ok (record { name = name.0; query_type = type_of code.0; query_class = class_of class.0 }, class.1)

-- the fields of a record before its data, and where these begin and end: the length of the data is within the bytes
unfoldable pub head_at : List ℕ → ℕ → Result RecordHead WireFault
head_at bytes at = do
  name ← name_at bytes at
  code ← u16_at bytes name.1
  class ← u16_at bytes code.1
  ttl ← u32_at bytes class.1
  len ← u16_at bytes ttl.1
  if nat_lt (length bytes) (len.1 + len.0) then Err Short else Ok (record {
    name = name.0;
    code = code.0;
    class = class.0;
    ttl = ttl.0;
    start = len.1;
    end = len.1 + len.0;
  })

-- the record of these fields
unfoldable pub record_from : List ℕ → RecordHead → Result RecordValue WireFault
record_from bytes head = do
  rdata ← record_data_at head.code bytes head.start head.end
  Ok (record { name = head.name; dns_class = class_of head.class; ttl = head.ttl; rdata = rdata })

unfoldable pub record_at : List ℕ → ℕ → Result (RecordValue × ℕ) WireFault
record_at bytes at = do
  head ← head_at bytes at
  found ← record_from bytes head
  Ok (found, head.end)

-- OPT has the root for its owner. Its class is the size, and its TTL the upper eight bits of the response code, the
-- version and 16 flags. Its options are kept as they are
unfoldable pub opt_from : List ℕ → RecordHead → Result OptRecord WireFault
opt_from bytes head =
    if nat_lt 0 (length head.name.labels) then Err OptName else Ok (record {
      extended = head.ttl / 16777216;
      edns = record {
        size = head.class;
        version = head.ttl / 65536 % 256;
        flags = head.ttl % 65536;
        options = take (head.end - head.start) (drop head.start bytes);
      };
    })

-- what the additional section holds: its records but for OPT, and OPT
abbrev pub nothing_found : Found
nothing_found = record { records = []; opt = None }

unfoldable pub found_with : List ℕ → RecordHead → Found → Result Found WireFault
found_with bytes head found =
    if head.code == 41
    then (if is_some found.opt then Err SecondOpt
    else (opt_from bytes head >>= λ opt. Ok (record { records = found.records; opt = Some opt })))
    else (record_from bytes head >>= λ added. Ok (record { records = found.records ++ added ∷ []; opt = found.opt }))

-- so many records of the additional section, behind those that were found
unfoldable pub additionals_at : ℕ → List ℕ → ℕ → Found → Result (Found × ℕ) WireFault
additionals_at zero bytes at found = Ok (found, at)
additionals_at (suc count) bytes at found = do
  head ← head_at bytes at
  more ← found_with bytes head found
  additionals_at count bytes head.end more
