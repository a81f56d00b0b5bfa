use Rattle.hickory_resolver_theorems.proofs.Transparent.{transparent}
use Rattle.hickory_resolver_theorems.proofs.laws.a_cache_changes_no_answer.Goals as goal

pub returns : goal.returns
returns c = transparent
