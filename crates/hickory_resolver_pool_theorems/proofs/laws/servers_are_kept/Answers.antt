use Rattle.hickory_resolver_pool_theorems.proofs.Listed.{servers_are_kept}
use Rattle.hickory_resolver_pool_theorems.proofs.laws.servers_are_kept.Goals as goal

pub returns : goal.returns
returns c = servers_are_kept
