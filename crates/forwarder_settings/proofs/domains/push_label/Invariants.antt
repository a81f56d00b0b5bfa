use Rattle.std.proofs.Common.{◌≡◌, ◌++◌, take}
use Rattle.hickory_proto_core.specs.Name.{lower_label}
use Rattle.forwarder_settings.proofs.domains.push_label.Given as goal

-- the octets so far are behind the length
abbrev pub invariant-loop-octet : goal.invariant-loop-octet
invariant-loop-octet l = l.octets.items ≡ l.initial.octets.items ++ lower_label (take l.octet-index l.label)
