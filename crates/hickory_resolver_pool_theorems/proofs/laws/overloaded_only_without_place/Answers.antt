use Rattle.hickory_resolver_pool_theorems.proofs.Refusals.{overloaded_only_without_place}
use Rattle.hickory_resolver_pool_theorems.proofs.laws.overloaded_only_without_place.Goals as goal

pub returns : goal.returns
returns c = overloaded_only_without_place
