use Rattle.yimarotu_forwarder_theorems.proofs.Lookups.{stale_answers_are_of_replies}
use Rattle.yimarotu_forwarder_theorems.proofs.laws.stale_answers_are_of_replies.Goals as goal

pub returns : goal.returns
returns c = stale_answers_are_of_replies
