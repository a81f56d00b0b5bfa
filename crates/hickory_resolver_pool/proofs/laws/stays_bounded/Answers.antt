use Rattle.hickory_resolver_pool.proofs.Bounded.{stays_bounded}
use Rattle.hickory_resolver_pool.proofs.laws.stays_bounded.Goals as goal

pub returns : goal.returns
returns c = stays_bounded
