-- What is written of a message, of so many octets at most.
use Rattle.std.specs.Prelude.{◌≡◌, ℕ, ◌+◌, ◌≤◌, ◌<◌, List, length, take, Ok}
use Rattle.hickory_proto_core.specs.Records.{RecordValue}
use Rattle.hickory_proto_wire.specs.declared.wire_message.WireMessage.{WireMessage}
use Rattle.hickory_proto_wire.specs.Messages.{spelled_message}
use Rattle.hickory_proto_wire.specs.Writing.{record_count, cut}
use Rattle.hickory_proto_wire.specs.Written.{Body, records_added, octets_of}

-- The octets of the message with its first records. They spell the message with these, truncated where any is left
-- out; they are within the limit, and with one record more they would not be.
pub record IsWritten (m : WireMessage) (limit : ℕ) (octets : List ℕ) : Type 0 where
  pub kept : ℕ
  pub known : kept ≤ record_count m
  pub written : octets ≡ octets_of m kept
  pub read : spelled_message octets ≡ Ok (cut m kept)
  pub within : length octets ≤ limit
  pub most : kept < record_count m → limit < length (octets_of m (kept + 1))

-- the same of a body: so many of the records are kept, and as many as are within so many octets
pub record KeepsMost (start : Body) (records : List RecordValue) (most kept : ℕ) (octets : List ℕ) : Type 0 where
  pub known : kept ≤ length records
  pub written : octets ≡ (records_added start (take kept records)).octets
  pub within : length octets ≤ most
  pub next : kept < length records → most < length (records_added start (take (kept + 1) records)).octets
