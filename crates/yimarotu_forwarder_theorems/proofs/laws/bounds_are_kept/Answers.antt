use Rattle.yimarotu_forwarder_theorems.proofs.Bounds.{bounds_are_kept}
use Rattle.yimarotu_forwarder_theorems.proofs.laws.bounds_are_kept.Goals as goal

pub returns : goal.returns
returns c = bounds_are_kept
