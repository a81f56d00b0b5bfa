use Rattle.hickory_resolver_pool_theorems.proofs.Handles.{from_octets_to_octets}
use Rattle.hickory_resolver_pool_theorems.proofs.laws.from_octets_to_octets.Goals as goal

pub returns : goal.returns
returns c = from_octets_to_octets
