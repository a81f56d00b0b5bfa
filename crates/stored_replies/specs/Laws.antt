-- That what a client is told is what `to_wire` writes.
use Rattle.std.specs.Prelude.{◌≡◌, ◌≤◌, ℕ, Bool, true, List, length}
use Rattle.hickory_proto_wire.specs.ToWire.{IsWritten}
use Rattle.hickory_proto_wire.specs.declared.wire_message.WireMessage.{WireMessage}
use Rattle.client_queries.specs.Refusals.{question_octets}
use Rattle.client_queries.specs.declared.query.ClientQuery.{ClientQuery}
use Rattle.stored_replies.specs.Key.{is_same_question, hash_input}
use Rattle.stored_replies.specs.Stored.{StoredValue, whole_octets}
use Rattle.stored_replies.specs.Told.{own_question, told_message, told_octets}

-- Where `to_wire` writes a message within a limit that is enough for all of it, it writes all of it.
abbrev pub ToWireWritesAll : Type 0
ToWireWritesAll =
    (m : WireMessage) (limit : ℕ) (octets : List ℕ) → IsWritten m limit octets → length (whole_octets m) ≤ limit
    → octets ≡ whole_octets m

-- Where the client spelled the question as it is stored, it is told the octets of the message.
abbrev pub SpelledAlikeIsWhole : Type 0
SpelledAlikeIsWhole =
    (octets : List ℕ) (q : ClientQuery) (s : StoredValue) (trust : Bool) (now : ℕ)
    → question_octets octets q.question_end ≡ own_question s
    → told_octets octets q s trust now ≡ whole_octets (told_message s q trust now)

-- Questions that are one feed a hasher the same.
abbrev pub SameQuestionsHashTheSame : Type 0
SameQuestionsHashTheSame =
    (one other : List ℕ) → is_same_question one other ≡ true → hash_input one ≡ hash_input other
