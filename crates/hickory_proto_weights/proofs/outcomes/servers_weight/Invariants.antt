use Rattle.std.proofs.Common.{◌≡◌, take}
use Rattle.hickory_proto_weights.specs.Weights.{saturated, servers_weight}
use Rattle.hickory_proto_weights.proofs.outcomes.servers_weight.Given as goal

abbrev pub invariant-loop-server : goal.invariant-loop-server
invariant-loop-server l = l.total ≡ saturated (servers_weight (take l.server-index l.servers))
