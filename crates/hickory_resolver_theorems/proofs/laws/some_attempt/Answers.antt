use Rattle.hickory_resolver_theorems.specs.AttemptLaws.{some_attempt}
use Rattle.hickory_resolver_theorems.proofs.laws.some_attempt.Goals as goal

pub returns : goal.returns
returns c = some_attempt
