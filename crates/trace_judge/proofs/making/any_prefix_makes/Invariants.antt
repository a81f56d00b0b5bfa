use Rattle.std.proofs.Common.{◌≡◌, false, take}
use Rattle.std.specs.List.{list_any}
use Rattle.std.specs.Net.Addr.{ipv6_segments}
use Rattle.trace_judge.specs.MadeIndex.{is_address_made_by}
use Rattle.trace_judge.proofs.making.any_prefix_makes.Given as goal

-- none of the prefixes so far makes it
abbrev pub invariant-loop-prefix : goal.invariant-loop-prefix
invariant-loop-prefix l =
    list_any (is_address_made_by l.evidence l.from l.told (ipv6_segments l.address)) (take l.prefix-index l.prefixes) ≡ false
