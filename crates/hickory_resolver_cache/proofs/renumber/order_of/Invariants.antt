use Rattle.std.proofs.Common.{take}
use Rattle.hickory_resolver_cache.specs.Turns.{IsOrderOf}
use Rattle.hickory_resolver_cache.proofs.renumber.order_of.Given as goal

abbrev pub invariant-loop-i : goal.invariant-loop-i
invariant-loop-i g l = IsOrderOf (take l.i l.index.entries) l.order
