use Rattle.hickory_resolver_pool_theorems.proofs.Dates.{deadlines_agree}
use Rattle.hickory_resolver_pool_theorems.proofs.laws.deadlines_agree.Goals as goal

pub returns : goal.returns
returns c = deadlines_agree
