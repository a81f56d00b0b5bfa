use Rattle.yimarotu_forwarder_theorems.proofs.Lookups.{answers_are_of_replies}
use Rattle.yimarotu_forwarder_theorems.proofs.laws.answers_are_of_replies.Goals as goal

pub returns : goal.returns
returns c = answers_are_of_replies
