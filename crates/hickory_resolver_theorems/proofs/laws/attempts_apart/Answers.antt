use Rattle.hickory_resolver_theorems.specs.AttemptLaws.{attempts_apart}
use Rattle.hickory_resolver_theorems.proofs.laws.attempts_apart.Goals as goal

pub returns : goal.returns
returns c = attempts_apart
