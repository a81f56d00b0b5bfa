use Rattle.yimarotu_forwarder_theorems.proofs.Answering.{replies_at_once_are_own}
use Rattle.yimarotu_forwarder_theorems.proofs.laws.replies_at_once_are_own.Goals as goal

pub returns : goal.returns
returns c = replies_at_once_are_own
