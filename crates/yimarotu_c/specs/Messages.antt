-- Messages that are put in a room of the caller's.
use Rattle.std.specs.Prelude.{◌≡◌, ◌≢◌, ◌⊎◌, ℕ, List, length, Option, None, Some, Ok}
use Rattle.hickory_proto_wire.specs.Messages.{message_of}
use Rattle.hickory_proto_wire.specs.Octets.{Fails}
use Rattle.hickory_proto_wire.specs.Refused.{wire_fault}
use Rattle.hickory_proto_wire.specs.ToWire.{IsWritten}
use Rattle.hickory_proto_wire.specs.declared.to_wire_error.ToWireError.{ToWireError}
use Rattle.hickory_proto_wire.specs.declared.to_wire_error.ToWireError.TheVariants as writing
use Rattle.hickory_proto_wire.specs.declared.wire_error.WireError.{WireError}
use Rattle.hickory_proto_wire.specs.declared.wire_error.WireError.TheVariants as reading
use Rattle.hickory_proto_wire.specs.declared.wire_message.WireMessage.{WireMessage}
use Rattle.yimarotu_c.specs.Faults.{reading_number, writing_number}
use Rattle.yimarotu_c.specs.Rooms.{IsPut}
use Rattle.yimarotu_c.specs.Statuses.{number_of}
use Rattle.yimarotu_c.specs.declared.rewriting.YimarotuWritten.{YimarotuWritten}
use Rattle.yimarotu_c.specs.declared.status.Status.{Status}
use Rattle.yimarotu_c.specs.declared.status.Status.TheVariants as status

-- so many octets were put, or there is no room for them
abbrev pub octets_end : Status → ℕ → YimarotuWritten
octets_end status count = record { status = number_of status; fault = 0; length = count }

-- nothing was written
abbrev pub nothing_end : Status → ℕ → YimarotuWritten
nothing_end status fault = record { status = number_of status; fault = fault; length = 0 }

-- bytes were no message, or memory ran out
abbrev pub unread_end : WireError → YimarotuWritten
unread_end reading.OutOfMemory = nothing_end status.NoMemory 0
unread_end (reading.Fault fault) = nothing_end status.Message (reading_number fault)

-- a message had no bytes, or memory ran out
abbrev pub unwritten_end : ToWireError → YimarotuWritten
unwritten_end writing.OutOfMemory = nothing_end status.NoMemory 0
unwritten_end error = nothing_end status.Unwritable (writing_number error)

-- the octets of a message, within a limit, are put in the room; where it has none, its first fault is told
pub record IsOctetsPut (m : WireMessage) (limit : ℕ) (before after : List ℕ) (ended : YimarotuWritten) : Type 0 where
  pub octets : List ℕ
  pub written : IsWritten m limit octets
  pub status : Status
  pub put : IsPut octets before after status
  pub told : ended ≡ octets_end status (length octets)

pub record IsNotPut (m : WireMessage) (limit : ℕ) (before after : List ℕ) (ended : YimarotuWritten) : Type 0 where
  pub error : ToWireError
  pub fault : error ≢ writing.OutOfMemory → wire_fault m limit ≡ Some error
  pub stays : after ≡ before
  pub told : ended ≡ unwritten_end error

abbrev pub IsMessagePut : WireMessage → ℕ → List ℕ → List ℕ → YimarotuWritten → Type 0
IsMessagePut m limit before after ended = IsOctetsPut m limit before after ended ⊎ IsNotPut m limit before after ended

-- where there is no message, the room stays
abbrev pub IsMessageOrNonePut : Option WireMessage → ℕ → List ℕ → List ℕ → YimarotuWritten → Type 0
IsMessageOrNonePut (Some m) limit before after ended = IsMessagePut m limit before after ended
IsMessageOrNonePut None limit before after ended = (after ≡ before) × (ended ≡ nothing_end status.Ok 0)

-- the message that the bytes spell is put in the room; where they spell none, the first fault is told
pub record IsReadAndPut (bytes : List ℕ) (limit : ℕ) (before after : List ℕ) (ended : YimarotuWritten) : Type 0 where
  pub message : WireMessage
  pub spelled : message_of bytes ≡ Ok message
  pub is_put : IsMessagePut message limit before after ended

pub record IsUnread (bytes : List ℕ) (before after : List ℕ) (ended : YimarotuWritten) : Type 0 where
  pub error : WireError
  pub fault : Fails error (message_of bytes)
  pub stays : after ≡ before
  pub told : ended ≡ unread_end error

abbrev pub IsRewritten : List ℕ → ℕ → List ℕ → List ℕ → YimarotuWritten → Type 0
IsRewritten bytes limit before after ended =
    IsReadAndPut bytes limit before after ended ⊎ IsUnread bytes before after ended
