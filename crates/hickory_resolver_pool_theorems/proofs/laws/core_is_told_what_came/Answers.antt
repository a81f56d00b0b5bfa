use Rattle.hickory_resolver_pool_theorems.proofs.Told.{core_is_told_what_came}
use Rattle.hickory_resolver_pool_theorems.proofs.laws.core_is_told_what_came.Goals as goal

pub returns : goal.returns
returns c = core_is_told_what_came
