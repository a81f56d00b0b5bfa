use Rattle.hickory_resolver_pool_theorems.proofs.Failures.{failures_are_told_last}
use Rattle.hickory_resolver_pool_theorems.proofs.laws.failures_are_told_last.Goals as goal

pub returns : goal.returns
returns c = failures_are_told_last
