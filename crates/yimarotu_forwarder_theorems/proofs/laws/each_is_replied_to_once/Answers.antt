use Rattle.yimarotu_forwarder_theorems.proofs.Replied.{each_is_replied_to_once}
use Rattle.yimarotu_forwarder_theorems.proofs.laws.each_is_replied_to_once.Goals as goal

pub returns : goal.returns
returns c = each_is_replied_to_once
