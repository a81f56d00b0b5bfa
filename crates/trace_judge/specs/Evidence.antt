-- What a telling is judged by.
use Rattle.std.specs.Prelude.{ℕ, List}
use Rattle.hickory_proto_core.specs.Name.{NameValue}
use Rattle.hickory_proto_core.specs.Records.{RecordValue}
use Rattle.synthesis.specs.declared.dns64.Prefix.{Prefix}
use Rattle.trace_judge.specs.declared.asks.Ask.{Ask}
use Rattle.trace_judge.specs.declared.denials.Denial.{Denial}
use Rattle.trace_judge.specs.declared.event.Moment.{Moment}
use Rattle.trace_judge.specs.declared.receptions.Reception.{Reception}

-- the slack in seconds, the zones that the resolver answers for by itself, the records that it has of its own, the
-- prefixes in which it makes addresses, the first moment of the trace, and what was received, asked and answered before
-- the telling
pub record EvidenceValue : Type 0 where
  pub slack : ℕ
  pub local : List NameValue
  pub own : List RecordValue
  pub dns64 : List Prefix
  pub start : Moment
  pub received : List Reception
  pub denied : List Denial
  pub asks : List Ask
  pub answers : List Ask
