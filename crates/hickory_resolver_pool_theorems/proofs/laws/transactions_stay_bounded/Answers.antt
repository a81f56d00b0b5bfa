use Rattle.hickory_resolver_pool_theorems.proofs.Unanswered.{transactions_stay_bounded}
use Rattle.hickory_resolver_pool_theorems.proofs.laws.transactions_stay_bounded.Goals as goal

pub returns : goal.returns
returns c = transactions_stay_bounded
