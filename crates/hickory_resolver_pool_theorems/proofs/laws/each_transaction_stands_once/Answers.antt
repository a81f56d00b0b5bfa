use Rattle.hickory_resolver_pool_theorems.proofs.Numbers.{each_transaction_stands_once}
use Rattle.hickory_resolver_pool_theorems.proofs.laws.each_transaction_stands_once.Goals as goal

pub returns : goal.returns
returns c = each_transaction_stands_once
