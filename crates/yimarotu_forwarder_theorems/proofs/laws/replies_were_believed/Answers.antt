use Rattle.yimarotu_forwarder_theorems.proofs.Believed.{replies_were_believed}
use Rattle.yimarotu_forwarder_theorems.proofs.laws.replies_were_believed.Goals as goal

pub returns : goal.returns
returns c = replies_were_believed
