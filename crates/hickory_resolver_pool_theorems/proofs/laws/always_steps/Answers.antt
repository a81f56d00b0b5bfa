use Rattle.hickory_resolver_pool_theorems.proofs.Always.{always_steps}
use Rattle.hickory_resolver_pool_theorems.proofs.laws.always_steps.Goals as goal

pub returns : goal.returns
returns c = always_steps
