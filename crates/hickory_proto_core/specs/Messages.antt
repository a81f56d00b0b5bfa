-- Messages as a header and four lists (RFC 1035, section 4.1), and when two are equal.
use Rattle.std.specs.Prelude.{ℕ, Bool, false, ◌&&◌, ◌||◌, ◌==◌, List}
use Rattle.std.specs.Bool.{beq}
use Rattle.std.specs.List.{list_any}
use Rattle.std.specs.Cmp.{IsEquivalence, and_equiv, on_equiv, nat_eq_equiv, bool_eq_equiv}
use Rattle.std.specs.Cmp.Lexicographic.{pointwise, lists_equiv}
use Rattle.hickory_proto_codes.specs.Codes.{op_code, response_code}
use Rattle.hickory_proto_core.specs.Query.{query_eq, query_equiv}
use Rattle.hickory_proto_core.specs.Records.{RecordValue, record_eq, record_equiv}
use Rattle.hickory_proto_core.specs.declared.query.Query.{Query}
use Rattle.hickory_proto_core.specs.declared.message.Metadata.{Metadata}
use Rattle.hickory_proto_codes.specs.declared.op_code.OpCode.{OpCode}
use Rattle.hickory_proto_codes.specs.declared.response_code.ResponseCode.TheVariants.{NoError}

pub record MessageValue : Type 0 where
  pub metadata : Metadata
  pub queries : List Query
  pub answers : List RecordValue
  pub authorities : List RecordValue
  pub additionals : List RecordValue

-- the header of a fresh response: NOERROR, and no flag
abbrev pub response_metadata : ℕ → OpCode → Metadata
response_metadata id op = record {
  id = id;
  op_code = op;
  authoritative = false;
  truncation = false;
  recursion_desired = false;
  recursion_available = false;
  response_code = NoError;
}

-- some record of some section is such
abbrev pub some_record : (RecordValue → Bool) → MessageValue → Bool
some_record p m = list_any p m.answers || list_any p m.authorities || list_any p m.additionals

abbrev pub metadata_eq : Metadata → Metadata → Bool
metadata_eq m n =
    (m.id == n.id) && (op_code m.op_code == op_code n.op_code) && beq m.authoritative n.authoritative
    && beq m.truncation n.truncation
    && beq m.recursion_desired n.recursion_desired && beq m.recursion_available n.recursion_available
    && (response_code m.response_code == response_code n.response_code)

-- messages are equal where the headers and the four lists are
abbrev pub message_eq : MessageValue → MessageValue → Bool
message_eq m n =
    metadata_eq m.metadata n.metadata && pointwise query_eq m.queries n.queries
    && pointwise record_eq m.answers n.answers
    && pointwise record_eq m.authorities n.authorities && pointwise record_eq m.additionals n.additionals

pub metadata_equiv : IsEquivalence metadata_eq
metadata_equiv =
    and_equiv (and_equiv (and_equiv
    (and_equiv (and_equiv
    (and_equiv (on_equiv (λ m. m.id) nat_eq_equiv) (on_equiv (λ m. op_code m.op_code) nat_eq_equiv))
    (on_equiv (λ m. m.authoritative) bool_eq_equiv)) (on_equiv (λ m. m.truncation) bool_eq_equiv))
    (on_equiv (λ m. m.recursion_desired) bool_eq_equiv))
    (on_equiv (λ m. m.recursion_available) bool_eq_equiv))
    (on_equiv (λ m. response_code m.response_code) nat_eq_equiv)

pub message_equiv : IsEquivalence message_eq
message_equiv =
    and_equiv (and_equiv (and_equiv
    (and_equiv (on_equiv (λ m. m.metadata) metadata_equiv)
    (on_equiv (λ m. m.queries) (lists_equiv query_equiv)))
    (on_equiv (λ m. m.answers) (lists_equiv record_equiv)))
    (on_equiv (λ m. m.authorities) (lists_equiv record_equiv)))
    (on_equiv (λ m. m.additionals) (lists_equiv record_equiv))
