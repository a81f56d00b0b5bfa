use Rattle.yimarotu_forwarder_theorems.proofs.Questions.{each_reply_is_to_its_question}
use Rattle.yimarotu_forwarder_theorems.proofs.laws.each_reply_is_to_its_question.Goals as goal

pub returns : goal.returns
returns c = each_reply_is_to_its_question
