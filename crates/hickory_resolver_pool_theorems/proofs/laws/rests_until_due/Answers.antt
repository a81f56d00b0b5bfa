use Rattle.hickory_resolver_pool_theorems.proofs.Ends.{rests_until_due}
use Rattle.hickory_resolver_pool_theorems.proofs.laws.rests_until_due.Goals as goal

pub returns : goal.returns
returns c = rests_until_due
