use Rattle.std.proofs.Common.{◌≡◌, ◌++◌, take, drop}
use Rattle.hickory_resolver_cache.specs.Turns.{renumbered}
use Rattle.hickory_resolver_cache.proofs.renumber.number_anew.Given as goal

abbrev pub invariant-loop-i : goal.invariant-loop-i
invariant-loop-i g l = l.index.entries ≡ renumbered 0 (take l.i l.initial.index.entries) ++ drop l.i l.initial.index.entries
