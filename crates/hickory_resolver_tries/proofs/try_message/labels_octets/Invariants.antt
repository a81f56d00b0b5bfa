use Rattle.std.proofs.Common.{◌≡◌, ◌++◌, [], drop}
use Rattle.hickory_proto_core.specs.Name.{label_bytes}
use Rattle.hickory_proto_wire.specs.Written.{name_octets}
use Rattle.hickory_resolver_tries.proofs.try_message.labels_octets.Given as goal

abbrev pub invariant-loop-i : goal.invariant-loop-i
invariant-loop-i l =
    l.out.items ++ name_octets [] (drop l.i (label_bytes l.labels)) ≡ name_octets [] (label_bytes l.labels)
