-- What counts of a reply.
use Rattle.std.specs.Prelude.{ℕ, List, map, filter, nat_lt, if◌then◌else◌}
use Rattle.hickory_proto_core.specs.Messages.{MessageValue}
use Rattle.hickory_proto_core.specs.Records.{RecordValue}
use Rattle.hickory_proto_core.specs.declared.query.Query.{Query}
use Rattle.hickory_resolver_model.specs.Verdict.{has_class}

-- A TTL whose top bit is set counts as 0 (RFC 2181, section 8).
abbrev pub received_ttl : ℕ → ℕ
received_ttl seconds = if nat_lt seconds 2147483648 then seconds else 0

abbrev pub with_received_ttl : RecordValue → RecordValue
with_received_ttl r = record r { ttl = received_ttl r.ttl }

-- Records of another class than the question's answer nothing, and say of nothing that it is not there (RFC 1034,
-- section 3.7.1).
abbrev pub received_records : Query → List RecordValue → List RecordValue
received_records q records = map with_received_ttl (filter (has_class q) records)

abbrev pub received : Query → MessageValue → MessageValue
received q m = record m {
  answers = received_records q m.answers;
  authorities = received_records q m.authorities;
}
