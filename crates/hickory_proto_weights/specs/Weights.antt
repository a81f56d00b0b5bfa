-- How many octets a cache takes for what it keeps: by the form of the value alone, each name counted as though it shared
-- its memory with no other.
use Rattle.std.specs.Prelude.{ℕ, ◌+◌, ◌*◌, ◌-◌, ◌^◌, List, length, min, Option, None, Some, Ok, Err}
use Rattle.std.specs.List.{sum_by}
use Rattle.std.specs.Option.{option_map_or}
use Rattle.hickory_proto_names.specs.Name.{NameValue}
use Rattle.hickory_proto_core.specs.Errors.{ForwardValue, NoRecordsValue}
use Rattle.hickory_proto_core.specs.Handles.{OutcomeValue}
use Rattle.hickory_proto_core.specs.Messages.{MessageValue}
use Rattle.hickory_proto_core.specs.Records.{DataValue, RecordValue, ns_target, a_data, aaaa_data, cname_data, ns_data, ptr_data, soa_data, srv_data, mx_data, txt_data, unknown_data}
use Rattle.hickory_proto_core.specs.declared.net_error.DnsError.TheVariants.{NoRecordsFound}
use Rattle.hickory_proto_core.specs.declared.net_error.NetError.{NetError}
use Rattle.hickory_proto_core.specs.declared.net_error.NetError.TheVariants.{Dns}
use Rattle.hickory_proto_core.specs.declared.query.Query.{Query}
use Rattle.hickory_proto_weights.specs.declared.choices.TheConstants.{PIECE, NAME, QUERY, RECORD, SERVER, NEGATIVE, ENTRY}

-- a weight in a number of 64 bits: the greatest of these where it is more
abbrev pub saturated : ℕ → ℕ
saturated weight = min weight (2 ^ 64 - 1)

-- ---- names and octets

-- a label of a name, a string of TXT data, or all data of an unknown kind: each is a piece of memory of its own
abbrev pub octets_weight : List ℕ → ℕ
octets_weight octets = PIECE + length octets

abbrev pub strings_weight : List (List ℕ) → ℕ
strings_weight strings = sum_by octets_weight strings

abbrev pub name_weight : NameValue → ℕ
name_weight name = NAME + strings_weight name.labels

-- ---- records and questions

-- the names and the octets that the data of a record have beside the record: its numbers and addresses stand in it
abbrev pub data_weight : DataValue → ℕ
data_weight (a_data octets) = 0
data_weight (aaaa_data segments) = 0
data_weight (cname_data target) = name_weight target
data_weight (ns_data target) = name_weight target
data_weight (ptr_data target) = name_weight target
data_weight (soa_data mname rname serial refresh retry expire minimum) = name_weight mname + name_weight rname
data_weight (srv_data priority weight port target) = name_weight target
data_weight (mx_data preference exchange) = name_weight exchange
data_weight (txt_data strings) = strings_weight strings
data_weight (unknown_data code octets) = octets_weight octets

abbrev pub record_weight : RecordValue → ℕ
record_weight r = RECORD + name_weight r.name + data_weight r.rdata

abbrev pub records_weight : List RecordValue → ℕ
records_weight records = sum_by record_weight records

abbrev pub query_weight : Query → ℕ
query_weight q = QUERY + name_weight q.name

abbrev pub queries_weight : List Query → ℕ
queries_weight queries = sum_by query_weight queries

-- ---- outcomes

-- the question section, and the three sections of records
abbrev pub message_weight : MessageValue → ℕ
message_weight m =
    queries_weight m.queries + records_weight m.answers + records_weight m.authorities + records_weight m.additionals

-- An address of the server that a record names: a record whose owner is that name, where the record names a server.
abbrev pub address_weight : Option NameValue → ℕ
address_weight None = RECORD
address_weight (Some server) = RECORD + name_weight server

-- a name server: its NS record, and its addresses, by their number
abbrev pub server_weight : ForwardValue → ℕ
server_weight f = SERVER + record_weight f.ns + length f.glue * address_weight (ns_target f.ns.rdata)

abbrev pub servers_weight : List ForwardValue → ℕ
servers_weight servers = sum_by server_weight servers

-- a negative answer: its question, the SOA record, the name servers, and the authority section
abbrev pub no_records_weight : NoRecordsValue → ℕ
no_records_weight n =
    NEGATIVE + query_weight n.query + option_map_or record_weight n.soa 0 + option_map_or servers_weight n.ns 0
    + option_map_or records_weight n.authorities 0

-- of errors, negative answers alone are kept
abbrev pub error_weight : NetError → ℕ
error_weight (Dns (NoRecordsFound none)) = no_records_weight none
error_weight other = 0

abbrev pub outcome_weight : OutcomeValue → ℕ
outcome_weight (Ok response) = message_weight response
outcome_weight (Err error) = error_weight error

-- ---- what is kept for a question

-- an entry of a cache: the name of its question, which stands in both maps, and the outcome
abbrev pub weight_of : Query → OutcomeValue → ℕ
weight_of q outcome = ENTRY + 2 * name_weight q.name + outcome_weight outcome
