use Rattle.hickory_resolver_pool_theorems.proofs.Whole.{all_is_read_at_rest}
use Rattle.hickory_resolver_pool_theorems.proofs.laws.all_is_read_at_rest.Goals as goal

pub returns : goal.returns
returns c = all_is_read_at_rest
