use Rattle.hickory_resolver_pool_theorems.proofs.Opens.{opens_to_own_servers}
use Rattle.hickory_resolver_pool_theorems.proofs.laws.opens_to_own_servers.Goals as goal

pub returns : goal.returns
returns c = opens_to_own_servers
