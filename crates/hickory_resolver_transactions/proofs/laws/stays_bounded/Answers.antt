use Rattle.hickory_resolver_transactions.proofs.Bounded.{stays_bounded}
use Rattle.hickory_resolver_transactions.proofs.laws.stays_bounded.Goals as goal

pub returns : goal.returns
returns c = stays_bounded
