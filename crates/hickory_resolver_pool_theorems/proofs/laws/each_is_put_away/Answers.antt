use Rattle.hickory_resolver_pool_theorems.proofs.PutAway.{each_is_put_away}
use Rattle.hickory_resolver_pool_theorems.proofs.laws.each_is_put_away.Goals as goal

pub returns : goal.returns
returns c = each_is_put_away
