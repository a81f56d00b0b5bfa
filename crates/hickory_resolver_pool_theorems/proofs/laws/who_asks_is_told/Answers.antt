use Rattle.hickory_resolver_pool_theorems.proofs.Tellings.{who_asks_is_told}
use Rattle.hickory_resolver_pool_theorems.proofs.laws.who_asks_is_told.Goals as goal

pub returns : goal.returns
returns c = who_asks_is_told
