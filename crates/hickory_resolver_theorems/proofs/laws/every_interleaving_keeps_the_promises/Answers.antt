use Rattle.hickory_resolver_theorems.proofs.Interleavings.{interleaved}
use Rattle.hickory_resolver_theorems.proofs.laws.every_interleaving_keeps_the_promises.Goals as goal

pub returns : goal.returns
returns c = interleaved
