use Rattle.hickory_resolver_pool_theorems.proofs.Unanswered.{timeouts_ran_out}
use Rattle.hickory_resolver_pool_theorems.proofs.laws.timeouts_ran_out.Goals as goal

pub returns : goal.returns
returns c = timeouts_ran_out
