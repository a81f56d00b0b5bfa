use Rattle.std.proofs.Common.{◌≡◌, ◌≤◌, nat_eq, drop}
use Rattle.std.specs.Cmp.Lexicographic.{pointwise}
use Rattle.hickory_resolver_tries.specs.Letters.{varied_octets}
use Rattle.hickory_resolver_tries.proofs.belief.is_as_sent.Given as goal

abbrev pub invariant-loop-i : goal.invariant-loop-i
invariant-loop-i l =
    (pointwise nat_eq (drop l.i l.own) (varied_octets l.bits l.place (drop l.i l.name))
    ≡ pointwise nat_eq l.own (varied_octets l.bits 0 l.name))
    × (l.place ≤ l.i)
