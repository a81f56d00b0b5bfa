use Rattle.hickory_resolver_pool_theorems.proofs.MadeUp.{nothing_is_made_up}
use Rattle.hickory_resolver_pool_theorems.proofs.laws.nothing_is_made_up.Goals as goal

pub returns : goal.returns
returns c = nothing_is_made_up
