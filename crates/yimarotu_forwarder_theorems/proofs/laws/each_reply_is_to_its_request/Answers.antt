use Rattle.yimarotu_forwarder_theorems.proofs.Replied.{each_reply_is_to_its_request}
use Rattle.yimarotu_forwarder_theorems.proofs.laws.each_reply_is_to_its_request.Goals as goal

pub returns : goal.returns
returns c = each_reply_is_to_its_request
