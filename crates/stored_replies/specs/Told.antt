-- The octets that a client is told of a reply that is kept (RFC 1035, section 4.1; RFC 2181, section 8).
use Rattle.std.specs.Prelude.{ℕ, ◌+◌, ◌%◌, Bool, true, false, ◌&&◌, ◌||◌, List, [], ◌∷◌, ◌++◌, length, take, drop, nat_le, Option, None, Some, if◌then◌else◌}
use Rattle.std.specs.Option.{option_map, option_map_or, option_and_then}
use Rattle.hickory_proto_codes.specs.declared.op_code.OpCode.TheVariants as kind
use Rattle.hickory_proto_core.specs.declared.message.Metadata.{Metadata}
use Rattle.hickory_proto_wire.specs.Edns.{EdnsValue}
use Rattle.hickory_proto_wire.specs.Messages.{bit}
use Rattle.hickory_proto_wire.specs.Writing.{u16_octets, weighed}
use Rattle.hickory_proto_wire.specs.Written.{query_octets, octets_of}
use Rattle.hickory_proto_wire.specs.declared.wire_message.WireMessage.{WireMessage}
use Rattle.client_queries.specs.Refusals.{question_octets}
use Rattle.client_queries.specs.declared.choices.TheConstants.{LARGEST_DATAGRAM}
use Rattle.client_queries.specs.declared.query.ClientEdns.{ClientEdns}
use Rattle.client_queries.specs.declared.query.ClientQuery.{ClientQuery}
use Rattle.whole_replies.specs.Kept.{KeptValue, aged}
use Rattle.stored_replies.specs.Key.{is_same_question}
use Rattle.stored_replies.specs.Stored.{StoredValue, whole_octets, elapsed}

-- ---- the message

abbrev pub asks_dnssec : Option ClientEdns → Bool
asks_dnssec edns = option_map_or (λ e. e.dnssec_ok) edns false

-- AD: where the upstream is trusted and said it, and the client set AD or asked for DNSSEC records (RFC 6840, section
-- 5.8)
abbrev pub is_told_authentic : Bool → KeptValue → ClientQuery → Bool
is_told_authentic trust k q = trust && k.authentic_data && (bit 32 q.flags || asks_dnssec q.edns)

-- OPT of version 0 without options, and DO as it was asked
abbrev pub told_edns : ClientEdns → EdnsValue
told_edns e = record { size = LARGEST_DATAGRAM; version = 0; flags = weighed e.dnssec_ok 32768; options = [] }

-- the flags of that message, of a code of 4 bits
abbrev pub told_flags : ℕ → Bool → Bool → ℕ → ℕ
told_flags asked truncated authentic code =
    32768 + weighed truncated 512 + weighed (bit 256 asked) 256 + 128 + weighed authentic 32 + weighed (bit 16 asked) 16
    + code % 16

-- the client's number, RD as it was asked, RA, and the code
abbrev pub told_metadata : KeptValue → ClientQuery → Metadata
told_metadata k q = record {
  id = q.id;
  op_code = kind.Query;
  authoritative = false;
  truncation = false;
  recursion_desired = bit 256 q.flags;
  recursion_available = true;
  response_code = k.code;
}

-- CD as it was asked, and the records as they have aged
unfoldable pub told_message : StoredValue → ClientQuery → Bool → ℕ → WireMessage
told_message s q trust now =
    let k : KeptValue = aged (elapsed s now) s.kept in
    record {
      is_response = true;
      reserved = false;
      authentic_data = is_told_authentic trust k q;
      checking_disabled = bit 16 q.flags;
      edns = option_map told_edns q.edns;
      message = record {
        metadata = told_metadata k q;
        queries = s.query ∷ [];
        answers = k.answers;
        authorities = k.authorities;
        additionals = [];
      };
    }

-- ---- its octets

-- a header of this number and these flags, and so many entries
abbrev pub header_with : ℕ → ℕ → ℕ → ℕ → ℕ → ℕ → List ℕ
header_with id flags queries answers authorities additionals =
    (u16_octets id ++ u16_octets flags)
    ++ (u16_octets queries ++ (u16_octets answers ++ (u16_octets authorities ++ u16_octets additionals)))

-- the octets of the question, which stands first, so that its name is spelled out
abbrev pub own_question : StoredValue → List ℕ
own_question s = query_octets [] s.query

abbrev pub asks_for : List ℕ → ClientQuery → StoredValue → Bool
asks_for octets q s =
    option_map_or (λ end. is_same_question (question_octets octets (Some end)) (own_question s)) q.question_end false

-- octets of a message with another question of as many octets in its place, behind the header
abbrev pub with_question : List ℕ → List ℕ → List ℕ
with_question question octets = take 12 octets ++ (question ++ drop (12 + length question) octets)

-- what `to_wire` writes of that message, the question as the client spelled it
abbrev pub told_octets : List ℕ → ClientQuery → StoredValue → Bool → ℕ → List ℕ
told_octets octets q s trust now =
    with_question (question_octets octets q.question_end) (whole_octets (told_message s q trust now))

-- the reply to these octets, which are this query, where it asks for what is stored, and so many octets are enough
abbrev pub reply_of : List ℕ → ClientQuery → StoredValue → Bool → ℕ → Option (List ℕ)
reply_of octets q s trust now = if asks_for octets q s then Some (told_octets octets q s trust now) else None

abbrev pub within : ℕ → List ℕ → Option (List ℕ)
within most octets = if nat_le (length octets) most then Some octets else None

abbrev pub reply_within : ℕ → List ℕ → ClientQuery → StoredValue → Bool → ℕ → Option (List ℕ)
reply_within most octets q s trust now = option_and_then (within most) (reply_of octets q s trust now)

-- a room with this at its front, the rest as it was
abbrev pub put_in : List ℕ → Option (List ℕ) → List ℕ
put_in room None = room
put_in room (Some octets) = octets ++ drop (length octets) room

-- ---- where it is too long for a datagram

-- the octets of a message of which no record is kept: it says TC where it has any
unfoldable pub bare_octets : WireMessage → List ℕ
bare_octets m = octets_of m 0

-- A client that is told TC asks again by TCP, and passes over the records that are there (RFC 2181, section 9).
abbrev pub cut_octets : List ℕ → ClientQuery → StoredValue → Bool → ℕ → List ℕ
cut_octets octets q s trust now =
    with_question (question_octets octets q.question_end) (bare_octets (told_message s q trust now))

abbrev pub cut_of : List ℕ → ClientQuery → StoredValue → Bool → ℕ → Option (List ℕ)
cut_of octets q s trust now = if asks_for octets q s then Some (cut_octets octets q s trust now) else None

abbrev pub cut_within : ℕ → List ℕ → ClientQuery → StoredValue → Bool → ℕ → Option (List ℕ)
cut_within most octets q s trust now = option_and_then (within most) (cut_of octets q s trust now)

-- how many octets OPT adds
abbrev pub opt_length : Option ClientEdns → ℕ
opt_length edns = option_map_or (λ e. 11) edns 0
