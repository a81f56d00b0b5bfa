use Rattle.hickory_resolver_pool_theorems.proofs.Resting.{each_comes_to_end}
use Rattle.hickory_resolver_pool_theorems.proofs.laws.each_comes_to_end.Goals as goal

pub returns : goal.returns
returns c = each_comes_to_end
