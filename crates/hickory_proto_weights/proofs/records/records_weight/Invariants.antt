use Rattle.std.proofs.Common.{◌≡◌, take}
use Rattle.hickory_proto_weights.specs.Weights.{saturated, records_weight}
use Rattle.hickory_proto_weights.proofs.records.records_weight.Given as goal

abbrev pub invariant-loop-found : goal.invariant-loop-found
invariant-loop-found l = l.total ≡ saturated (records_weight (take l.found-index l.records))
