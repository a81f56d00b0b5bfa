use Rattle.std.proofs.Common.{◌≤◌, take, All}
use Rattle.hickory_proto_core.proofs.glue.longest_ttl.Given as goal

abbrev pub invariant-loop-record : goal.invariant-loop-record
invariant-loop-record l = All (λ r. r.ttl ≤ l.longest) (take l.record-index l.records)
