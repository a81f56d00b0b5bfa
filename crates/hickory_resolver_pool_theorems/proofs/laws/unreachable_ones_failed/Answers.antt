use Rattle.hickory_resolver_pool_theorems.proofs.Unanswered.{unreachable_ones_failed}
use Rattle.hickory_resolver_pool_theorems.proofs.laws.unreachable_ones_failed.Goals as goal

pub returns : goal.returns
returns c = unreachable_ones_failed
