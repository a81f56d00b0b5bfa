-- The text that tells what happened: errors, look-ups, and the block of a request.
use Rattle.std.specs.Prelude.{ℕ, take, drop, map, ◌∷◌, List, [], ◌++◌, codes, Option, None, Some, Ok, Err}
use Rattle.std.specs.Fmt.{decimal}
use Rattle.std.specs.List.{flat_map}
use Rattle.std.specs.Net.Text.{ipv4_text, ipv6_text}
use Rattle.hickory_proto_core.specs.Codes.{type_code, type_text, response_code, response_text}
use Rattle.hickory_proto_core.specs.Records.{RecordValue, DataValue, a_data, aaaa_data}
use Rattle.hickory_proto_core.specs.Texts.{question_text, record_text}
use Rattle.hickory_proto_core.specs.Errors.{NoRecordsValue}
use Rattle.hickory_proto_core.specs.ResponseKind.{first_query}
use Rattle.hickory_proto_core.specs.declared.query.Query.{Query}
use Rattle.hickory_proto_core.specs.names.name_error.NameError.{NameError}
use Rattle.hickory_proto_core.specs.names.name_error.NameError.TheVariants as name_error
use Rattle.hickory_proto_core.specs.declared.net_error.NetError.{NetError}
use Rattle.hickory_proto_core.specs.declared.net_error.NetError.TheVariants.{Message, Timeout, Proto, Dns, NoOutcome}
use Rattle.hickory_proto_core.specs.declared.net_error.NetError.TheVariants.{Bounds, OutOfMemory}
use Rattle.hickory_proto_core.specs.declared.net_error.DnsError.TheVariants.{ResponseCode, NoRecordsFound}
use Rattle.hickory_proto_core.specs.declared.recorded.Exchange.{Exchange}
use Rattle.hickory_resolver_model.specs.Lookup.{LookupValue, LookupResult}
use Rattle.hickory_proto_core.specs.codes.record_type.RecordType.{RecordType}
use Rattle.hickory_resolver_model.specs.Run.{RequestValue, Lookup, LookupIp, ClearLookup, Clear, StepReply}
use Rattle.hickory_resolver_model.specs.Run.{LookedUp, LookedUpIp, Cleared, StepValue}

-- how the faults of names are numbered
abbrev pub name_error_text : NameError → List ℕ
name_error_text name_error.EmptyLabel = codes "N1"
name_error_text name_error.LabelTooLong = codes "N2"
name_error_text name_error.NameTooLong = codes "N3"
name_error_text name_error.BadCharacter = codes "N4"
name_error_text name_error.BadEscape = codes "N5"
name_error_text name_error.NotArpa = codes "N6"
name_error_text name_error.OutOfMemory = codes "N7"

-- for how many seconds a negative answer may be kept, where that is known
abbrev pub ttl_text : Option ℕ → List ℕ
ttl_text None = codes "-"
ttl_text (Some seconds) = decimal seconds

-- CODE TTL NAME CLASS TYPE
abbrev pub no_records_text : NoRecordsValue → List ℕ
no_records_text n =
    codes "norecords " ++ response_text (response_code n.response_code) ++ codes " "
    ++ ttl_text n.negative_ttl ++ codes " " ++ question_text n.query

-- what went wrong with a request. Bounds and out of memory end a run otherwise
abbrev pub error_text : NetError → List ℕ
error_text (Message text) = codes "message " ++ text.now
error_text Timeout = codes "timeout"
error_text (Proto error) = codes "name " ++ name_error_text error
error_text (Dns (ResponseCode code)) = codes "code " ++ response_text (response_code code)
error_text (Dns (NoRecordsFound none)) = no_records_text none
error_text NoOutcome = codes "nooutcome"
error_text (Bounds error) = codes "bounds"
error_text OutOfMemory = codes "memory"

-- a line: two spaces, a word and what it tells
abbrev pub line_text : List ℕ → List ℕ → List ℕ
line_text word told = codes "  " ++ word ++ codes " " ++ told ++ codes "\n"

abbrev pub sent_text : List Query → List ℕ
sent_text questions = flat_map (λ q. line_text (codes "sent") (question_text q)) questions

abbrev pub section_text : List ℕ → List RecordValue → List ℕ
section_text section records = flat_map (λ r. line_text section (record_text r)) records

-- the line of an address; other data have none
abbrev pub address_text : DataValue → List ℕ
address_text (a_data octets) = line_text (codes "address") (ipv4_text octets)
address_text (aaaa_data segments) = line_text (codes "address") (ipv6_text segments)
address_text other = []

-- a look-up of addresses tells those among its answers
abbrev pub addresses_text : RequestValue → List RecordValue → List ℕ
addresses_text (LookupIp host now) answers = flat_map (λ r. address_text r.rdata) answers
addresses_text other answers = []

-- the question and the deadline, the addresses where they were asked for, then the records of the sections
abbrev pub lookup_text : RequestValue → LookupValue → List ℕ
lookup_text request l =
    line_text (codes "ok")
    (question_text (first_query l.message.queries) ++ codes " until " ++ decimal l.valid_until)
    ++ addresses_text request l.message.answers
    ++ section_text (codes "answer") l.message.answers
    ++ section_text (codes "authority") l.message.authorities
    ++ section_text (codes "additional") l.message.additionals

-- what a look-up came to
abbrev pub result_text : RequestValue → LookupResult → List ℕ
result_text request (Ok lookup) = lookup_text request lookup
result_text request (Err error) = line_text (codes "err") (error_text error)

abbrev pub reply_text : RequestValue → StepReply → List ℕ
reply_text request (LookedUp result) = result_text request result
reply_text request (LookedUpIp result) = result_text request result
reply_text request (Cleared (Ok u)) = codes "  cleared\n"
reply_text request (Cleared (Err error)) = line_text (codes "err") (error_text error)

-- at MOMENT VERB NAME TYPE
abbrev pub asked_text : List ℕ → List ℕ → RecordType → ℕ → List ℕ
asked_text verb name t now =
    codes "at " ++ decimal now ++ codes " " ++ verb ++ codes " " ++ name ++ codes " " ++ type_text (type_code t)
    ++ codes "\n"

-- at MOMENT, and what is asked
abbrev pub request_text : RequestValue → List ℕ
request_text (Lookup name t now) = asked_text (codes "lookup") name t now
request_text (LookupIp host now) = codes "at " ++ decimal now ++ codes " lookup_ip " ++ host ++ codes "\n"
request_text (ClearLookup name t now) = asked_text (codes "clear_lookup") name t now
request_text (Clear now) = codes "at " ++ decimal now ++ codes " clear" ++ codes "\n"

-- the block of a request: the request, each question that was sent for it, and the reply
abbrev pub step_text : RequestValue → List Query → StepReply → List ℕ
step_text request sent reply = request_text request ++ sent_text sent ++ reply_text request reply

-- the blocks of the steps, each with as many of the exchanges as it made
abbrev pub run_text : List RequestValue → List StepValue → List Exchange → List ℕ
run_text [] steps exchanges = []
run_text (request ∷ requests) [] exchanges = []
run_text (request ∷ requests) (step ∷ steps) exchanges =
    step_text request (map (λ x. x.query) (take step.exchanges exchanges)) step.reply
    ++ run_text requests steps (drop step.exchanges exchanges)
