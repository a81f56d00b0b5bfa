use Rattle.std.proofs.Common.{◌≡◌, false, take}
use Rattle.std.specs.Net.Addr.{ipv6_segments}
use Rattle.trace_judge.specs.Index.{any_late}
use Rattle.trace_judge.specs.MadeIndex.{makes_address_by}
use Rattle.trace_judge.proofs.making.any_makes_address.Given as goal

-- none so far makes it
abbrev pub invariant-loop-r : goal.invariant-loop-r
invariant-loop-r l = any_late l.from (makes_address_by l.told (ipv6_segments l.address) l.prefix) (take l.r-index l.received) ≡ false
