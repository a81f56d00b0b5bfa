use Rattle.std.proofs.Common.{◌≡◌, take}
use Rattle.hickory_proto_names.specs.Name.{label_bytes}
use Rattle.hickory_proto_weights.specs.Weights.{saturated, strings_weight}
use Rattle.hickory_proto_weights.proofs.octets.strings_weight.Given as goal

abbrev pub invariant-loop-octets : goal.invariant-loop-octets
invariant-loop-octets l = l.total ≡ saturated (strings_weight (label_bytes (take l.octets-index l.strings)))
