use Rattle.std.proofs.Common.{◌≡◌, take}
use Rattle.std.specs.List.{fold}
use Rattle.stored_replies.specs.Key.{octet_by_octet}
use Rattle.stored_replies.proofs.key.hash_octets.Given as goal

abbrev pub invariant-loop-octet : goal.invariant-loop-octet
invariant-loop-octet g l =
    l.hasher ≡ fold g.H.Hasher.write l.fn.hasher (octet_by_octet (take l.octet-index l.octets))
