use Rattle.yimarotu_forwarder_theorems.proofs.Replied.{questions_have_queues}
use Rattle.yimarotu_forwarder_theorems.proofs.laws.questions_have_queues.Goals as goal

pub returns : goal.returns
returns c = questions_have_queues
