use Rattle.hickory_resolver_pool_theorems.proofs.OverOnce.{over_once}
use Rattle.hickory_resolver_pool_theorems.proofs.laws.over_once.Goals as goal

pub returns : goal.returns
returns c = over_once
