use Rattle.std.proofs.Common.{◌≡◌, ◌<◌, ◌^◌, fold, take}
use Rattle.trace_judge.specs.Index.{later_from}
use Rattle.trace_judge.proofs.facts.last_from.Given as goal

abbrev pub invariant-loop-r : goal.invariant-loop-r
invariant-loop-r l = (l.last ≡ fold (later_from l.oldest l.told) 0 (take l.r-index l.seen)) × (l.last < 2 ^ 43)
