use Rattle.std.proofs.Common.{◌≡◌, ◌++◌, ◌≤◌, drop}
use Rattle.hickory_resolver_tries.specs.Letters.{varied_octets}
use Rattle.hickory_resolver_tries.proofs.try_message.put_varied.Given as goal

abbrev pub invariant-loop-octet : goal.invariant-loop-octet
invariant-loop-octet l =
    (l.out.items ++ varied_octets l.bits l.place (drop l.octet-index l.octets)
    ≡ l.fn.out.items ++ varied_octets l.bits 0 l.octets)
    × (l.place ≤ l.octet-index)
