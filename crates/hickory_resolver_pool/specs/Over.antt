-- What a transaction came to, as its askers are told, and as the core is told.
use Rattle.std.specs.Prelude.{◌≡◌, ℕ, Bool, true, false, ◌||◌, ◌==◌, List, Option, None, Some, Ok, Err, if◌then◌else◌}
use Rattle.std.specs.Option.{option_and_then}
use Rattle.hickory_proto_core.specs.Codes.{response_code}
use Rattle.hickory_proto_core.specs.Handles.{OutcomeValue}
use Rattle.hickory_proto_core.specs.codes.response_code.ResponseCode.{ResponseCode}
use Rattle.hickory_proto_core.specs.codes.response_code.ResponseCode.TheVariants.{NoError, NXDomain, FormErr, ServFail}
use Rattle.hickory_proto_core.specs.declared.net_error.NetError.TheVariants as error
use Rattle.hickory_proto_core.specs.declared.net_error.DnsError.TheVariants as dns
use Rattle.hickory_proto_wire.specs.declared.wire_message.WireMessage.{WireMessage}
use Rattle.hickory_resolver_flights.specs.Flights.{KeptValue}
use Rattle.hickory_resolver_transactions.specs.declared.outcome.Outcome.{Outcome}
use Rattle.hickory_resolver_transactions.specs.declared.outcome.Outcome.TheVariants as ended
use Rattle.hickory_resolver_tries.specs.declared.pool_question.PoolQuestion.{PoolQuestion}
use Rattle.hickory_resolver_pool.specs.declared.over.PoolOutcome.{PoolOutcome}
use Rattle.hickory_resolver_pool.specs.declared.over.PoolOutcome.TheVariants.{Response, Cut, Code, Unreachable, Timeout, Overloaded}
use Rattle.hickory_resolver_pool.specs.declared.over.TheConstants.{CUT, UNREACHABLE, OVERLOADED}

-- the number of the transaction, those who asked, what it came to, and the reply that is kept of it
pub record OverValue : Type 0 where
  pub transaction : ℕ
  pub askers : List ℕ
  pub outcome : PoolOutcome
  pub question : PoolQuestion
  pub kept : Option KeptValue

abbrev pub told_as : Outcome → PoolOutcome
told_as (ended.Reply reply) = Response
told_as (ended.Cut reply) = Cut
told_as (ended.Code reply) = Code
told_as ended.Unreachable = Unreachable
told_as ended.Timeout = Timeout

-- ---- the reply, where it is one or is made of one

abbrev pub is_of_reply : PoolOutcome → Bool
is_of_reply Response = true
is_of_reply Cut = true
is_of_reply Code = true
is_of_reply other = false

abbrev pub reply_of : OverValue → Option KeptValue
reply_of o = if is_of_reply o.outcome then o.kept else None

abbrev pub octets_of : KeptValue → List ℕ
octets_of k = k.octets

abbrev pub message_of : OverValue → Option WireMessage
message_of o = option_and_then (λ k. k.message) (reply_of o)

-- ---- as a handle of the core tells it

-- what is no message counts as FORMERR, and a lame reply, which has NOERROR, as SERVFAIL
abbrev pub code_of : Option WireMessage → ResponseCode
code_of None = FormErr
code_of (Some m) =
    if (response_code m.message.metadata.response_code == response_code NoError)
    || (response_code m.message.metadata.response_code == response_code NXDomain)
    then ServFail else m.message.metadata.response_code

abbrev pub failed_with : ResponseCode → OutcomeValue
failed_with code = Err (error.Dns (dns.ResponseCode code))

abbrev pub answered_with : Option WireMessage → OutcomeValue
answered_with None = failed_with FormErr
answered_with (Some m) = Ok m.message

-- an error with these words
abbrev pub IsFault : List ℕ → OutcomeValue → Type 0
IsFault words (Err (error.Message text)) = text.now ≡ words
IsFault words other = ⊥

-- A reply that was cut is never handed on, since records may be missing (RFC 2181, section 9).
abbrev pub IsToldToCore : PoolOutcome → Option WireMessage → OutcomeValue → Type 0
IsToldToCore Response message told = told ≡ answered_with message
IsToldToCore Cut message told = IsFault CUT.now told
IsToldToCore Code message told = told ≡ failed_with (code_of message)
IsToldToCore Unreachable message told = IsFault UNREACHABLE.now told
IsToldToCore Timeout message told = told ≡ Err error.Timeout
IsToldToCore Overloaded message told = IsFault OVERLOADED.now told

abbrev pub IsCoreOutcome : OverValue → OutcomeValue → Type 0
IsCoreOutcome o told = IsToldToCore o.outcome (message_of o) told
