-- A table from questions to outcomes, as a list of pairs.
use Rattle.std.specs.Prelude.{◌≡◌, ◌⊎◌, true, List, reverse, Option, None, Some, Err}
use Rattle.std.specs.Map.{lookup}
use Rattle.hickory_proto_core.specs.Query.{query_eq}
use Rattle.hickory_proto_core.specs.Handles.{OutcomeValue, holds_memory}
use Rattle.hickory_proto_core.specs.declared.query.Query.{Query}
use Rattle.hickory_proto_core.specs.declared.dns_request.DnsRequest.{DnsRequest}
use Rattle.hickory_proto_core.specs.declared.net_error.NetError.TheVariants.{NoOutcome, OutOfMemory}

abbrev pub TableValue : Type 0
TableValue = List (Query × OutcomeValue)

-- the outcome of a question: the first one that is for an equal question
abbrev pub outcome_in : Query → TableValue → Option OutcomeValue
outcome_in q table = lookup (query_eq q) table

-- the outcome that was given last for a question
abbrev pub last_given : Query → TableValue → Option OutcomeValue
last_given q pairs = outcome_in q (reverse pairs)

-- what a table answers for the outcome that it found: that outcome, or that it has none; a copy of what holds
-- memory may find none
abbrev pub IsTableAnswer : Option OutcomeValue → OutcomeValue → Type 0
IsTableAnswer None answer = answer ≡ Err NoOutcome
IsTableAnswer (Some outcome) answer =
    (answer ≡ outcome) ⊎ ((answer ≡ Err OutOfMemory) × (holds_memory outcome ≡ true))

-- the table stays, and answers what it has for the question
abbrev pub TableStep : TableValue → DnsRequest → OutcomeValue → TableValue → Type 0
TableStep before request answer after =
    IsTableAnswer (outcome_in request.query before) answer × (after ≡ before)
