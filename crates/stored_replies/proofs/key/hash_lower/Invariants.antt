use Rattle.std.proofs.Common.{◌≡◌, take}
use Rattle.std.specs.List.{fold}
use Rattle.hickory_proto_core.specs.Name.{lower_label}
use Rattle.stored_replies.specs.Key.{octet_by_octet}
use Rattle.stored_replies.proofs.key.hash_lower.Given as goal

abbrev pub invariant-loop-octet : goal.invariant-loop-octet
invariant-loop-octet g l =
    l.hasher ≡ fold g.H.Hasher.write l.fn.hasher (octet_by_octet (lower_label (take l.octet-index l.octets)))
