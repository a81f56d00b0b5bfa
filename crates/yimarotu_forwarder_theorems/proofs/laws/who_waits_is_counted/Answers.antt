use Rattle.yimarotu_forwarder_theorems.proofs.Counted.{who_waits_is_counted}
use Rattle.yimarotu_forwarder_theorems.proofs.laws.who_waits_is_counted.Goals as goal

pub returns : goal.returns
returns c = who_waits_is_counted
