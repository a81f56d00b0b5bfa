use Rattle.std.proofs.Common.{◌≡◌, take}
use Rattle.std.specs.List.{filter_map}
use Rattle.hickory_proto_core.specs.Glue.{forward_from}
use Rattle.hickory_proto_core.proofs.dns_response.forwards.Given as goal

abbrev pub invariant-loop-authority : goal.invariant-loop-authority
invariant-loop-authority l = l.found.items ≡ filter_map (forward_from l.by_owner) (take l.authority-index l.authorities.items)
