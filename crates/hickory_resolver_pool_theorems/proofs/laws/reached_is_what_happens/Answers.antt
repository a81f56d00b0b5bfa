use Rattle.hickory_resolver_pool_theorems.proofs.Reaching.{reached_is_what_happens}
use Rattle.hickory_resolver_pool_theorems.proofs.laws.reached_is_what_happens.Goals as goal

pub returns : goal.returns
returns c = reached_is_what_happens
