use Rattle.yimarotu_forwarder.proofs.NameOctets.{AreWritten}
use Rattle.yimarotu_forwarder.proofs.local.octets_of.Given as goal

abbrev pub invariant-loop-label : goal.invariant-loop-label
invariant-loop-label l = AreWritten l.octets.items l.label-index l.labels
