use Rattle.hickory_resolver_pool_theorems.proofs.Kept.{tries_agree}
use Rattle.hickory_resolver_pool_theorems.proofs.laws.tries_agree.Goals as goal

pub returns : goal.returns
returns c = tries_agree
