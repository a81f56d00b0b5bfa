-- What the additional section of a message holds: its records but for OPT, and OPT.
use Rattle.std.specs.Prelude.{List, Option}
use Rattle.hickory_proto_core.specs.Records.{RecordValue}
use Rattle.hickory_proto_wire.specs.declared.wire_record.OptRecord.{OptRecord}

pub record Found : Type 0 where
  pub records : List RecordValue
  pub opt : Option OptRecord
