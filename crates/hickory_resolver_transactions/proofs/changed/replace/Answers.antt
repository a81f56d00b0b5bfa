use Rattle.std.proofs.Common.{arith}
use Rattle.hickory_resolver_transactions.proofs.Replacing.{replaced_there}
use Rattle.hickory_resolver_transactions.proofs.changed.replace.Goals as goal

pub returns-then-candidates-i : goal.returns-then-candidates-i
returns-then-candidates-i c =
    replaced_there c.args.new.now c.loop-i.candidates c.args.candidates.now c.loop-i.i _ (omega arith) c.if-candidates-i.true
    c.loop-i.invariant.1
