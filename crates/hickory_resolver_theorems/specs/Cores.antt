-- What is left of a reply and of an outcome where times to live, deadlines and the spelling of names are set
-- aside.
use Rattle.std.specs.Prelude.{◌≡◌, ℕ, Bool, List, map, None, Result, Ok, Err}
use Rattle.std.specs.Option.{option_map}
use Rattle.hickory_proto_core.specs.Name.{NameValue, lower_labels}
use Rattle.hickory_proto_core.specs.Codes.{type_code, type_of, class_code, class_of, response_code, response_of}
use Rattle.hickory_proto_core.specs.Records.{RecordValue, DataValue, cname_data, ns_data, ptr_data, soa_data, srv_data, mx_data}
use Rattle.hickory_proto_core.specs.Messages.{MessageValue}
use Rattle.hickory_proto_core.specs.Errors.{NoRecordsValue, ForwardValue}
use Rattle.hickory_proto_core.specs.Handles.{OutcomeValue}
use Rattle.hickory_proto_core.specs.declared.query.Query.{Query}
use Rattle.hickory_proto_core.specs.declared.net_error.NetError.{NetError}
use Rattle.hickory_proto_core.specs.declared.net_error.NetError.TheVariants.{Dns}
use Rattle.hickory_proto_core.specs.declared.net_error.DnsError.TheVariants.{ResponseCode, NoRecordsFound}
use Rattle.hickory_resolver_model.specs.Lookup.{LookupResult}

-- a name in lower case (RFC 1035, section 2.3.3): two names are equal where these are the same
abbrev pub folded_name : NameValue → NameValue
folded_name n = record { labels = lower_labels n.labels; fqdn = n.fqdn }

abbrev pub folded_query : Query → Query
folded_query q =
    record {
      name = folded_name q.name;
      query_type = type_of (type_code q.query_type);
      query_class = class_of (class_code q.query_class);
    }

abbrev pub folded_data : DataValue → DataValue
folded_data (cname_data target) = cname_data (folded_name target)
folded_data (ns_data target) = ns_data (folded_name target)
folded_data (ptr_data target) = ptr_data (folded_name target)
folded_data (soa_data mname rname serial refresh retry expire minimum) =
    soa_data (folded_name mname) (folded_name rname) serial refresh retry expire minimum
folded_data (srv_data priority weight port target) = srv_data priority weight port (folded_name target)
folded_data (mx_data preference exchange) = mx_data preference (folded_name exchange)
folded_data other = other

-- a record without its TTL
abbrev pub record_core : RecordValue → RecordValue
record_core r =
    record {
      name = folded_name r.name;
      dns_class = class_of (class_code r.dns_class);
      ttl = 0;
      rdata = folded_data r.rdata;
    }

-- the sections of a message without TTLs
pub record Sections : Type 0 where
  pub answers : List RecordValue
  pub authorities : List RecordValue
  pub additionals : List RecordValue

abbrev pub sections : MessageValue → Sections
sections m =
    record {
      answers = map record_core m.answers;
      authorities = map record_core m.authorities;
      additionals = map record_core m.additionals;
    }

abbrev pub forward_core : ForwardValue → ForwardValue
forward_core f = record { ns = record_core f.ns; glue = map record_core f.glue }

-- a negative answer without its negative TTL and the TTLs of its records
abbrev pub negative_core : NoRecordsValue → NoRecordsValue
negative_core n = record {
  query = folded_query n.query;
  soa = option_map record_core n.soa;
  ns = option_map (map forward_core) n.ns;
  negative_ttl = None;
  response_code = response_of (response_code n.response_code);
  authorities = option_map (map record_core) n.authorities;
}

abbrev pub error_core : NetError → NetError
error_core (Dns (ResponseCode code)) = Dns (ResponseCode (response_of (response_code code)))
error_core (Dns (NoRecordsFound n)) = Dns (NoRecordsFound (negative_core n))
error_core error = error

-- what a reply comes to: its sections, or its error. The question section, the header and the deadline are
-- set aside
abbrev pub ReplyCore : Type 0
ReplyCore = Result Sections NetError

abbrev pub reply_core : LookupResult → ReplyCore
reply_core (Ok l) = Ok (sections l.message)
reply_core (Err e) = Err (error_core e)

-- what an outcome comes to: the code, whether it was cut short, the questions and the sections, or its error
pub record ResponseCore : Type 0 where
  pub code : ℕ
  pub truncation : Bool
  pub queries : List Query
  pub body : Sections

abbrev pub outcome_core : OutcomeValue → Result ResponseCore NetError
outcome_core (Ok m) = Ok (record {
  code = response_code m.metadata.response_code;
  truncation = m.metadata.truncation;
  queries = map folded_query m.queries;
  body = sections m;
})
outcome_core (Err e) = Err (error_core e)

-- two outcomes agree where they come to the same
abbrev pub AgreeInCore : OutcomeValue → OutcomeValue → Type 0
AgreeInCore a b = outcome_core a ≡ outcome_core b

-- an entry comes to what its outcome comes to
abbrev pub entry_core : OutcomeValue → ReplyCore
entry_core (Ok m) = Ok (sections m)
entry_core (Err e) = Err (error_core e)
