use Rattle.hickory_resolver_pool_theorems.proofs.Answers.{asked_is_answered}
use Rattle.hickory_resolver_pool_theorems.proofs.laws.asked_is_answered.Goals as goal

pub returns : goal.returns
returns c = asked_is_answered
