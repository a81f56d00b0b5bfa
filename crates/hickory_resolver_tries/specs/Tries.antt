-- The message of a try. The tries of one question differ in their number, in the letters of the name, and in whether
-- they have OPT (RFC 6891, section 6.1).
use Rattle.std.specs.Prelude.{ℕ, Bool, false, ◌&&◌, ◌||◌, List, [], ◌∷◌, Option, None, Some, if◌then◌else◌}
use Rattle.std.specs.Option.{is_some}
use Rattle.hickory_proto_core.specs.Name.{NameValue}
use Rattle.hickory_proto_core.specs.declared.query.Query.{Query}
use Rattle.hickory_proto_core.specs.codes.op_code.OpCode.TheVariants as op
use Rattle.hickory_proto_core.specs.codes.response_code.ResponseCode.TheVariants as code
use Rattle.hickory_proto_wire.specs.Edns.{EdnsValue}
use Rattle.hickory_proto_wire.specs.Written.{octets_of}
use Rattle.hickory_proto_wire.specs.declared.wire_message.WireMessage.{WireMessage}
use Rattle.hickory_resolver_tries.specs.declared.pool_question.PoolQuestion.{PoolQuestion}
use Rattle.hickory_resolver_tries.specs.declared.pool_question.SentOpt.{SentOpt}
use Rattle.hickory_resolver_tries.specs.declared.try_message.TryForm.{TryForm}
use Rattle.hickory_resolver_tries.specs.Question.{is_dnssec_ok}
use Rattle.hickory_resolver_tries.specs.Letters.{varied_labels, varied_octets}

-- OPT is left out where the try says so, and never where DNSSEC OK was asked
abbrev pub sends_opt : PoolQuestion → TryForm → Bool
sends_opt q form = is_some q.opt && (form.with_opt || is_dnssec_ok q.opt)

-- version 0, no option, and DNSSEC OK the first of 16 flags (RFC 3225, section 3)
abbrev pub edns_of : SentOpt → EdnsValue
edns_of opt = record {
  size = opt.payload;
  version = 0;
  flags = if opt.dnssec_ok then 32768 else 0;
  options = [];
}

abbrev pub edns_if : Bool → Option SentOpt → Option EdnsValue
edns_if sends None = None
edns_if sends (Some opt) = if sends then Some (edns_of opt) else None

-- the labels as they are sent
abbrev pub labels_sent : Option (List ℕ) → List (List ℕ) → List (List ℕ)
labels_sent None labels = labels
labels_sent (Some bits) labels = varied_labels bits 0 labels

abbrev pub name_sent : Option (List ℕ) → NameValue → NameValue
name_sent letters name = record { labels = labels_sent letters name.labels; fqdn = name.fqdn }

abbrev pub query_sent : Option (List ℕ) → Query → Query
query_sent letters q = record {
  name = name_sent letters q.name;
  query_type = q.query_type;
  query_class = q.query_class;
}

-- a query with one question and no record but OPT (RFC 1035, section 4.1)
abbrev pub message_of_try : PoolQuestion → TryForm → WireMessage
message_of_try q form = record {
  is_response = false;
  reserved = false;
  authentic_data = q.authentic_data;
  checking_disabled = q.checking_disabled;
  edns = edns_if (sends_opt q form) q.opt;
  message = record {
    metadata = record {
      id = form.id;
      op_code = op.Query;
      authoritative = false;
      truncation = false;
      recursion_desired = q.recursion_desired;
      recursion_available = false;
      response_code = code.NoError;
    };
    queries = query_sent form.letters q.query ∷ [];
    answers = [];
    authorities = [];
    additionals = [];
  };
}

-- and its octets
abbrev pub octets_of_try : PoolQuestion → TryForm → List ℕ
octets_of_try q form = octets_of (message_of_try q form) 0

-- the octets of the name in the question, as they are sent
abbrev pub octets_sent : Option (List ℕ) → List ℕ → List ℕ
octets_sent None name = name
octets_sent (Some bits) name = varied_octets bits 0 name
