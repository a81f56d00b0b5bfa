use Rattle.yimarotu_forwarder_theorems.proofs.ToldAtOnce.{answers_at_once_are_of_replies}
use Rattle.yimarotu_forwarder_theorems.proofs.laws.answers_at_once_are_of_replies.Goals as goal

pub returns : goal.returns
returns c = answers_at_once_are_of_replies
