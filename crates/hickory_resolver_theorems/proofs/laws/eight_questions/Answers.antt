use Rattle.hickory_resolver_theorems.proofs.Few.{few}
use Rattle.hickory_resolver_theorems.proofs.laws.eight_questions.Goals as goal

pub returns : goal.returns
returns c = few
