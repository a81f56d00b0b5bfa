use Rattle.hickory_resolver_pool_theorems.proofs.AllTold.{each_asker_is_told}
use Rattle.hickory_resolver_pool_theorems.proofs.laws.each_asker_is_told.Goals as goal

pub returns : goal.returns
returns c = each_asker_is_told
