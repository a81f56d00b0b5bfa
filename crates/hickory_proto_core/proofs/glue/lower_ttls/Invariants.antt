use Rattle.std.proofs.Common.{◌≡◌, ◌++◌, map, take, drop}
use Rattle.hickory_proto_core.specs.Records.{lower_ttl}
use Rattle.hickory_proto_core.proofs.glue.lower_ttls.Given as goal

abbrev pub invariant-loop-record : goal.invariant-loop-record
invariant-loop-record l = l.record-items ≡ map (lower_ttl l.seconds) (take l.record-index l.initial.record-items) ++ drop l.record-index l.initial.record-items
