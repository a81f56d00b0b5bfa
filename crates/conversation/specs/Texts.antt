-- The lines that go out.
use Rattle.std.specs.Prelude.{ℕ, List, [], ◌∷◌, ◌++◌, codes, Option, None, Some, if◌then◌else◌}
use Rattle.std.specs.Fmt.{decimal}
use Rattle.std.specs.List.{flat_map}
use Rattle.hickory_proto_core.specs.Texts.{question_text}
use Rattle.hickory_proto_core.specs.declared.dns_request.DnsRequestOptions.{DnsRequestOptions}
use Rattle.hickory_proto_core.specs.declared.query.Query.{Query}
use Rattle.hickory_resolver_model.specs.Lookup.{LookupResult}
use Rattle.hickory_resolver_model.specs.Run.{RequestValue}
use Rattle.replay_script.specs.Output.{request_text, result_text, sent_text}
use Rattle.conversation.specs.Faults.{RefusalValue, fault_words}
use Rattle.conversation.specs.State.{BegunValue}

-- MARK `fault` LINE CODE WORDS, and `: FIELD` where the fault is about one field
abbrev pub field_text : Option (List ℕ) → List ℕ
field_text None = []
field_text (Some text) = codes ": " ++ text

abbrev pub fault_text : List ℕ → ℕ → RefusalValue → List ℕ
fault_text mark line refusal =
    mark ++ codes " fault " ++ decimal line ++ codes " " ++ fault_words refusal.fault ++ field_text refusal.field
    ++ codes "\n"

-- whether the server is asked to recurse, the payload that EDNS announces (bytes), and whether the case of the name is
-- varied
abbrev pub edns_text : DnsRequestOptions → List ℕ
edns_text options = if options.use_edns then codes " edns " ++ decimal options.edns_payload_len else []

abbrev pub options_text : DnsRequestOptions → List ℕ
options_text options =
    (if options.recursion_desired then codes " rd" else []) ++ edns_text options
    ++ (if options.case_randomization then codes " mixed" else [])

-- MARK `send` NAME CLASS TYPE, and how
abbrev pub send_text : List ℕ → Query → DnsRequestOptions → List ℕ
send_text mark question options =
    mark ++ codes " send " ++ question_text question ++ options_text options ++ codes "\n"

-- MARK `cancelled`
abbrev pub cancelled_text : List ℕ → List ℕ
cancelled_text mark = mark ++ codes " cancelled\n"

-- the block of a request that is over, as a replay has it, behind its mark, and an empty line
abbrev pub looked_up_text : List ℕ → BegunValue → LookupResult → List ℕ
looked_up_text mark begun result =
    mark ++ codes " " ++ request_text begun.request ++ sent_text begun.sent ++ result_text begun.request result
    ++ codes "\n"

abbrev pub clear_text : List ℕ → RequestValue → List ℕ
clear_text mark request = mark ++ codes " " ++ request_text request ++ codes "  cleared\n" ++ codes "\n"

-- fields as a line of a script, with a blank between two
abbrev pub fields_behind : List (List ℕ) → List ℕ
fields_behind given = flat_map (λ field. codes " " ++ field) given

abbrev pub fields_text : List (List ℕ) → List ℕ
fields_text [] = codes "\n"
fields_text (field ∷ given) = field ++ fields_behind given ++ codes "\n"
