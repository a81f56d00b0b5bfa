use Rattle.whole_lookups.proofs.InOrder.{asks_few_questions}
use Rattle.whole_lookups.proofs.laws.asks_few_questions.Goals as goal

pub returns : goal.returns
returns c = asks_few_questions
