use Rattle.hickory_resolver_pool_theorems.proofs.AllTold.{no_asker_is_lost}
use Rattle.hickory_resolver_pool_theorems.proofs.laws.no_asker_is_lost.Goals as goal

pub returns : goal.returns
returns c = no_asker_is_lost
