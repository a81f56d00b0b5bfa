use Rattle.std.proofs.Common.{◌≡◌, take}
use Rattle.hickory_proto_weights.specs.Weights.{saturated, queries_weight}
use Rattle.hickory_proto_weights.proofs.records.queries_weight.Given as goal

abbrev pub invariant-loop-query : goal.invariant-loop-query
invariant-loop-query l = l.total ≡ saturated (queries_weight (take l.query-index l.queries))
