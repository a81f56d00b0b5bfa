use Rattle.hickory_resolver_theorems.proofs.Fresh.{fresh}
use Rattle.hickory_resolver_theorems.proofs.laws.nothing_outlives.Goals as goal

pub returns : goal.returns
returns c = fresh
