use Rattle.hickory_resolver_pool_theorems.proofs.Timeouts.{timeouts_are_alone}
use Rattle.hickory_resolver_pool_theorems.proofs.laws.timeouts_are_alone.Goals as goal

pub returns : goal.returns
returns c = timeouts_are_alone
