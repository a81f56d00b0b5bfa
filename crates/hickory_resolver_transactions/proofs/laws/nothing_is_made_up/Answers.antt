use Rattle.hickory_resolver_transactions.proofs.MadeUp.{nothing_is_made_up}
use Rattle.hickory_resolver_transactions.proofs.laws.nothing_is_made_up.Goals as goal

pub returns : goal.returns
returns c = nothing_is_made_up
