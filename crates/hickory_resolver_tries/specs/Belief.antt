-- Which octets are believed as a reply to a try (RFC 5452, section 9.1), of those that came where the try was sent.
use Rattle.std.specs.Prelude.{ℕ, ◌+◌, ◌/◌, ◌%◌, Bool, true, false, not, ◌&&◌, ◌||◌, ◌==◌, List, [], ◌++◌, length, take, drop, nat_eq, nat_le, Option, None, Some, if◌then◌else◌}
use Rattle.std.specs.Cmp.Lexicographic.{pointwise}
use Rattle.hickory_proto_core.specs.Name.{lower_label}
use Rattle.hickory_proto_core.specs.codes.op_code.OpCode.TheVariants as op
use Rattle.hickory_proto_core.specs.codes.response_code.ResponseCode.TheVariants as code
use Rattle.hickory_proto_core.specs.Codes.{type_code, class_code, op_code, response_code}
use Rattle.hickory_proto_core.specs.declared.query.Query.{Query}
use Rattle.hickory_proto_wire.specs.Messages.{bit}
use Rattle.hickory_proto_wire.specs.Writing.{u16_octets}
use Rattle.hickory_proto_wire.specs.Written.{name_octets}
use Rattle.hickory_resolver_tries.specs.declared.pool_question.PoolQuestion.{PoolQuestion}
use Rattle.hickory_resolver_tries.specs.declared.try_message.TryForm.{TryForm}
use Rattle.hickory_resolver_tries.specs.declared.head.Head.{Head}
use Rattle.hickory_resolver_tries.specs.declared.belief.Belief.{Belief}
use Rattle.hickory_resolver_tries.specs.declared.belief.Belief.TheVariants.{Believed, OtherLetters, OptRefused, NotBelieved}
use Rattle.hickory_resolver_tries.specs.Heads.{head_of}
use Rattle.hickory_resolver_tries.specs.Letters.{varied_octets}
use Rattle.hickory_resolver_tries.specs.Question.{is_dnssec_ok}
use Rattle.hickory_resolver_tries.specs.Tries.{sends_opt}

-- ---- the header (RFC 1035, section 4.1.1)

-- a response to a query, of this number
abbrev pub is_reply : ℕ → Head → Bool
is_reply id h = bit 32768 h.flags && (h.flags / 2048 % 16 == op_code op.Query) && (h.id == id)

-- such a one with one question
abbrev pub has_one_question : ℕ → Option Head → Bool
has_one_question id None = false
has_one_question id (Some h) = is_reply id h && (h.queries == 1)

-- such a one without question and record
abbrev pub has_nothing : Head → Bool
has_nothing h = (h.queries == 0) && (h.answers == 0) && (h.authorities == 0) && (h.additionals == 0)

-- a code of those that do not know OPT (RFC 6891, section 7)
abbrev pub knows_no_opt : ℕ → Bool
knows_no_opt n = (n == response_code code.FormErr) || (n == response_code code.NotImp)

abbrev pub is_bare_refusal : ℕ → Option Head → Bool
is_bare_refusal id None = false
is_bare_refusal id (Some h) = is_reply id h && has_nothing h && knows_no_opt (h.flags % 16)

-- ---- the question, which stands behind the header (RFC 1035, section 4.1.2)

-- The octets of the name; those of the type and the class behind it. A question is the first name of a message, so that
-- there is none that it could point to.
abbrev pub asked_name : Query → List ℕ
asked_name q = name_octets [] q.name.labels

abbrev pub asked_codes : Query → List ℕ
asked_codes q = u16_octets (type_code q.query_type) ++ u16_octets (class_code q.query_class)

abbrev pub name_part : List ℕ → List ℕ → List ℕ
name_part name bytes = take (length name) (drop 12 bytes)

abbrev pub codes_part : List ℕ → List ℕ → List ℕ
codes_part name bytes = take 4 (drop (12 + length name) bytes)

-- the same name without case, the same type and the same class
abbrev pub has_question : List ℕ → List ℕ → List ℕ → Bool
has_question name codes bytes =
    nat_le (12 + length name + 4) (length bytes)
    && pointwise nat_eq (lower_label (name_part name bytes)) (lower_label name)
    && pointwise nat_eq (codes_part name bytes) codes

-- the letters that were sent, octet for octet, where they were varied
abbrev pub letters_match : Option (List ℕ) → List ℕ → List ℕ → Bool
letters_match None own name = true
letters_match (Some bits) own name = pointwise nat_eq own (varied_octets bits 0 name)

abbrev pub has_letters : Option (List ℕ) → List ℕ → List ℕ → Bool
has_letters letters name bytes = letters_match letters (name_part name bytes) name

-- ---- the whole, by the header, where there is one

-- A response of this number to a query, with one question: the one that was sent.
abbrev pub is_believed : PoolQuestion → TryForm → Option Head → List ℕ → Bool
is_believed q form header bytes =
    has_one_question form.id header && has_question (asked_name q.query) (asked_codes q.query) bytes
    && has_letters form.letters (asked_name q.query) bytes

-- All of that but for letters that were varied.
abbrev pub matches_but_for_letters : PoolQuestion → TryForm → Option Head → List ℕ → Bool
matches_but_for_letters q form header bytes =
    has_one_question form.id header && has_question (asked_name q.query) (asked_codes q.query) bytes
    && not (has_letters form.letters (asked_name q.query) bytes)

-- A header alone with the code of one that does not know OPT, to a try that had OPT and can do without.
abbrev pub refuses_opt : PoolQuestion → TryForm → Option Head → List ℕ → Bool
refuses_opt q form header bytes =
    is_bare_refusal form.id header && (length bytes == 12) && sends_opt q form && not (is_dnssec_ok q.opt)

abbrev pub belief_with : PoolQuestion → TryForm → List ℕ → Option Head → Belief
belief_with q form bytes header =
    if is_believed q form header bytes then Believed else (
    if matches_but_for_letters q form header bytes then OtherLetters else (
    if refuses_opt q form header bytes then OptRefused else NotBelieved))

abbrev pub belief_of : PoolQuestion → TryForm → List ℕ → Belief
belief_of q form bytes = belief_with q form bytes (head_of bytes)
