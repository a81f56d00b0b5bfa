-- One record of the answer section, and the name that aliases have reached: the step of the model's walk.
use Rattle.std.specs.Prelude.{Bool, Option, None, Some, if◌then◌else◌}
use Rattle.std.specs.Option.{unwrap_or}
use Rattle.hickory_proto_core.specs.Name.{NameValue, name_eq}
use Rattle.hickory_proto_core.specs.Records.{RecordValue, DataValue, cname_data}

-- the target of an alias that the reached name owns
abbrev pub target_if : Bool → DataValue → Option NameValue
target_if owns (cname_data target) = if owns then Some target else None
target_if owns other = None

abbrev pub alias_at : NameValue → RecordValue → Option NameValue
alias_at reached r = target_if (name_eq reached r.name) r.rdata

abbrev pub next_name : NameValue → RecordValue → NameValue
next_name reached r = unwrap_or (alias_at reached r) reached
