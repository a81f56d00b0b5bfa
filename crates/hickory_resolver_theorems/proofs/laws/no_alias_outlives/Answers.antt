use Rattle.hickory_resolver_theorems.proofs.AliasLifetimes.{no_alias_outlives}
use Rattle.hickory_resolver_theorems.proofs.laws.no_alias_outlives.Goals as goal

pub returns : goal.returns
returns c = no_alias_outlives
