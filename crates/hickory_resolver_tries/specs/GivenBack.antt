-- A reply with the letters that were asked: in its question, and in each owner that is the asked name without case.
use Rattle.std.specs.Prelude.{map, if◌then◌else◌}
use Rattle.hickory_proto_core.specs.Name.{NameValue, name_eq}
use Rattle.hickory_proto_core.specs.Messages.{MessageValue}
use Rattle.hickory_proto_core.specs.Records.{RecordValue}
use Rattle.hickory_proto_core.specs.declared.query.Query.{Query}

abbrev pub respelled : NameValue → NameValue → NameValue
respelled asked name = if name_eq asked name then asked else name

abbrev pub respelled_query : NameValue → Query → Query
respelled_query asked q = record q { name = respelled asked q.name }

abbrev pub respelled_record : NameValue → RecordValue → RecordValue
respelled_record asked r = record r { name = respelled asked r.name }

abbrev pub given_back : NameValue → MessageValue → MessageValue
given_back asked m = record {
  metadata = m.metadata;
  queries = map (respelled_query asked) m.queries;
  answers = map (respelled_record asked) m.answers;
  authorities = map (respelled_record asked) m.authorities;
  additionals = map (respelled_record asked) m.additionals;
}
