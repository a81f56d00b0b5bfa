use Rattle.std.proofs.Common.{◌≡◌, ◌++◌, take, drop}
use Rattle.hickory_resolver_transactions.specs.Transaction.{replaced}
use Rattle.hickory_resolver_transactions.proofs.changed.replace.Given as goal

-- up to here no server has the place
abbrev pub invariant-loop-i : goal.invariant-loop-i
invariant-loop-i l =
    (l.candidates ≡ l.fn.candidates)
    × (take l.i l.candidates ++ replaced l.new (drop l.i l.candidates) ≡ replaced l.new l.fn.candidates)
