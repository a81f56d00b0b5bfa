-- The messages by which questions are sent, and those that tell what a look-up came to.
use Rattle.std.specs.Prelude.{true, false, List, [], ◌∷◌, map, Option, None, Some, if◌then◌else◌}
use Rattle.hickory_proto_core.specs.Errors.{NoRecordsValue}
use Rattle.hickory_proto_core.specs.Messages.{MessageValue, response_metadata}
use Rattle.hickory_proto_core.specs.Records.{RecordValue}
use Rattle.hickory_proto_core.specs.codes.op_code.OpCode.TheVariants as op
use Rattle.hickory_proto_core.specs.declared.dns_request.DnsRequestOptions.{DnsRequestOptions}
use Rattle.hickory_proto_core.specs.declared.query.Query.{Query}
use Rattle.hickory_proto_wire.specs.Edns.{EdnsValue}
use Rattle.hickory_proto_wire.specs.declared.wire_message.WireMessage.{WireMessage}
use Rattle.hickory_resolver_model.specs.Hosts.{as_fqdn}

-- what EDNS announces
abbrev pub announced : DnsRequestOptions → Option EdnsValue
announced options =
    if options.use_edns
    then Some (record { size = options.edns_payload_len; version = 0; flags = 0; options = [] })
    else None

-- a question as a message: its id is 0
abbrev pub question_message : Query → DnsRequestOptions → WireMessage
question_message question options = record {
  is_response = false;
  reserved = false;
  authentic_data = false;
  checking_disabled = false;
  edns = announced options;
  message = record {
    metadata = record (response_metadata 0 op.Query) { recursion_desired = options.recursion_desired };
    queries = question ∷ [];
    answers = [];
    authorities = [];
    additionals = [];
  };
}

-- a question, and a record, whose name is absolute
abbrev pub whole_query : Query → Query
whole_query q = record q { name = as_fqdn q.name }

abbrev pub whole_record : RecordValue → RecordValue
whole_record r = record r { name = as_fqdn r.name }

-- A message as a response, without OPT. An address that was looked up comes under a relative name, which no octets
-- spell: the names that are asked and that own answers are absolute here.
abbrev pub response_message : MessageValue → WireMessage
response_message message = record {
  is_response = true;
  reserved = false;
  authentic_data = false;
  checking_disabled = false;
  edns = None;
  message = record message {
    queries = map whole_query message.queries;
    answers = map whole_record message.answers;
  };
}

-- the records of the authority section of a negative answer: those that it came with, or else its SOA
abbrev pub records_or : Option RecordValue → Option (List RecordValue) → List RecordValue
records_or soa (Some records) = records
records_or (Some soa) None = soa ∷ []
records_or None None = []

-- a negative answer as a message
abbrev pub negative_message : NoRecordsValue → MessageValue
negative_message none = record {
  metadata = record (response_metadata 0 op.Query) { response_code = none.response_code };
  queries = none.query ∷ [];
  answers = [];
  authorities = records_or none.soa none.authorities;
  additionals = [];
}
