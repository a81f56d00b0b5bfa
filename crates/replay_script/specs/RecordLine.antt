-- A line that is a record: `answer`, `authority` or `additional`, then NAME TTL CLASS TYPE DATA.
use Rattle.std.specs.Prelude.{◌≡◌, ℕ, List, [], ◌∷◌, ◌++◌, Result, Ok, Err, MatchResult}
use Rattle.hickory_proto_core.specs.Messages.{MessageValue}
use Rattle.hickory_proto_core.specs.Records.{DataValue, RecordValue}
use Rattle.replay_script.specs.Faults.{LineFaultValue, wrong_line}
use Rattle.replay_script.specs.DataFields.{IsData}
use Rattle.replay_script.specs.Words.{◌>>=◌, class_field, name_field, number_field, type_field}
use Rattle.replay_script.specs.declared.fault.ScriptFault.TheVariants.{FieldCount}
use Rattle.replay_script.specs.declared.record_line.RecordHead.{RecordHead}
use Rattle.replay_script.specs.declared.record_line.Section.{Section}
use Rattle.replay_script.specs.declared.record_line.Section.TheVariants.{Additional, Answer, Authority}

-- NAME TTL CLASS TYPE
abbrev pub head_of : List ℕ → List ℕ → List ℕ → List ℕ → Result RecordHead LineFaultValue
head_of name ttl class type = do
  n ← name_field name
  seconds ← number_field 32 ttl
  c ← class_field class
  t ← type_field type
  Ok (record { name = n; ttl = seconds; dns_class = c; record_type = t })

-- the record with this head and these data
abbrev pub with_data : RecordHead → DataValue → RecordValue
with_data head rdata =
    record { name = head.name; dns_class = head.dns_class; ttl = head.ttl; rdata = rdata }

-- the record that the fields write, or their first fault
abbrev pub IsRecord : List (List ℕ) → Result RecordValue LineFaultValue → Type 0
IsRecord (name ∷ ttl ∷ class ∷ type ∷ fields) result =
    MatchResult (head_of name ttl class type)
    (λ head. (written : Result DataValue LineFaultValue) × IsData head.record_type fields written
    × (result ≡ (written >>= (λ rdata. Ok (with_data head rdata)))))
    (λ fault. result ≡ Err fault)
IsRecord fields result = result ≡ Err (wrong_line FieldCount)

-- one more record at the end of a section
abbrev pub with_record : Section → RecordValue → MessageValue → MessageValue
with_record Answer found m = record m { answers = m.answers ++ found ∷ [] }
with_record Authority found m = record m { authorities = m.authorities ++ found ∷ [] }
with_record Additional found m = record m { additionals = m.additionals ++ found ∷ [] }
