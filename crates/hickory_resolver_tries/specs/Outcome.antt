-- What a believed reply comes to, by what it says alone: nothing of servers, of other tries, or of the transport.
use Rattle.std.specs.Prelude.{◌≡◌, ℕ, Bool, false, not, ◌&&◌, ◌||◌, ◌==◌, List, [], ◌∷◌, Option, None, Some, Result, Ok, Err, if◌then◌else◌}
use Rattle.std.specs.List.{list_any}
use Rattle.std.specs.Option.{is_some, is_none}
use Rattle.hickory_proto_core.specs.Name.{NameValue}
use Rattle.hickory_proto_core.specs.Codes.{response_code}
use Rattle.hickory_proto_core.specs.Messages.{MessageValue}
use Rattle.hickory_proto_core.specs.ResponseKind.{is_asked, is_empty, is_of_type, first_soa}
use Rattle.hickory_proto_core.specs.declared.query.Query.{Query}
use Rattle.hickory_proto_core.specs.codes.record_type.RecordType.TheVariants as type
use Rattle.hickory_proto_core.specs.codes.response_code.ResponseCode.{ResponseCode}
use Rattle.hickory_proto_core.specs.codes.response_code.ResponseCode.TheVariants as code
use Rattle.hickory_proto_wire.specs.Messages.{bit, message_of}
use Rattle.hickory_proto_wire.specs.Writing.{named_query}
use Rattle.hickory_proto_wire.specs.declared.wire_error.WireFault.{WireFault}
use Rattle.hickory_proto_wire.specs.declared.wire_message.WireMessage.{WireMessage}
use Rattle.hickory_resolver_model.specs.AliasWalk.{walk_of, is_moved}
use Rattle.hickory_resolver_tries.specs.declared.head.Head.{Head}
use Rattle.hickory_resolver_tries.specs.declared.outcome.ReplyOutcome.{ReplyOutcome}
use Rattle.hickory_resolver_tries.specs.declared.outcome.ReplyOutcome.TheVariants as outcome
use Rattle.hickory_resolver_tries.specs.declared.pool_question.PoolQuestion.{PoolQuestion}
use Rattle.hickory_resolver_tries.specs.declared.try_message.TryForm.{TryForm}
use Rattle.hickory_resolver_tries.specs.Belief.{knows_no_opt}
use Rattle.hickory_resolver_tries.specs.GivenBack.{given_back}
use Rattle.hickory_resolver_tries.specs.Heads.{head_of}
use Rattle.hickory_resolver_tries.specs.Question.{is_dnssec_ok}
use Rattle.hickory_resolver_tries.specs.Tries.{sends_opt}

-- the response code is this one
abbrev pub has_code : ResponseCode → MessageValue → Bool
has_code c m = response_code m.metadata.response_code == response_code c

abbrev pub has_soa : MessageValue → Bool
has_soa m = is_some (first_soa m.authorities)

-- the same question for another name
abbrev pub at_name : Query → NameValue → Query
at_name q name = record { name = name; query_type = q.query_type; query_class = q.query_class }

-- some answer is one to the question at the name where the aliases among the answers end
abbrev pub is_answered : Query → MessageValue → Bool
is_answered q m = list_any (is_asked (at_name q (walk_of q m.answers).last)) m.answers

-- aliases lead on, and nothing says that there is nothing where they end (RFC 2308, section 2): it is to be asked there
abbrev pub leads_on : Query → MessageValue → Bool
leads_on q m = is_moved (walk_of q m.answers) && not (has_code code.NXDomain m) && not (has_soa m)

-- NOERROR without answer and SOA, from a server that refers to others, or that neither recurses nor has authority
abbrev pub is_lame : MessageValue → Bool
is_lame m =
    has_code code.NoError m && is_empty m.answers && not (has_soa m)
    && (list_any (is_of_type type.NS) m.authorities
    || (not m.metadata.recursion_available && not m.metadata.authoritative))

-- a code of those that do not know OPT, with the question, without OPT, to a try that had OPT and can do without
abbrev pub refuses_sent_opt : PoolQuestion → TryForm → WireMessage → Bool
refuses_sent_opt q form m =
    knows_no_opt (response_code m.message.metadata.response_code) && is_none m.edns && sends_opt q form
    && not (is_dnssec_ok q.opt)

-- the rows for a message, in order
abbrev pub outcome_of_message : PoolQuestion → TryForm → WireMessage → ReplyOutcome
outcome_of_message q form m =
    if refuses_sent_opt q form m then outcome.WithoutOpt else (
    if not (has_code code.NoError m.message || has_code code.NXDomain m.message)
    then outcome.Code m.message.metadata.response_code else (
    if is_lame m.message then outcome.Lame else (
    if is_answered q.query m.message || leads_on q.query m.message then outcome.Answer else outcome.Negative)))

abbrev pub outcome_of_read : PoolQuestion → TryForm → Result WireMessage WireFault → ReplyOutcome
outcome_of_read q form (Err fault) = outcome.BadRest
outcome_of_read q form (Ok m) = outcome_of_message q form m

-- the bit TC of the header (RFC 1035, section 4.1.1)
abbrev pub is_truncated : Option Head → Bool
is_truncated None = false
is_truncated (Some h) = bit 512 h.flags

-- A reply that was cut is not read: its last record may have been cut too (RFC 2181, section 9).
abbrev pub outcome_of : PoolQuestion → TryForm → List ℕ → ReplyOutcome
outcome_of q form bytes =
    if is_truncated (head_of bytes) then outcome.Truncated else outcome_of_read q form (message_of bytes)

-- the message with the letters that were asked
abbrev pub with_letters : NameValue → WireMessage → WireMessage
with_letters asked m = record m { message = given_back asked m.message }

-- the message, where it is read and not cut
abbrev pub message_if : Bool → NameValue → Result WireMessage WireFault → Option WireMessage
message_if cut asked (Err fault) = None
message_if cut asked (Ok m) = if cut then None else Some (with_letters asked m)

-- a message with this question alone; a code of the question that has a name has it
abbrev pub AsksAlone : Query → Option WireMessage → Type 0
AsksAlone q None = Unit {0}
AsksAlone q (Some m) = m.message.queries ≡ named_query q ∷ []
