use Rattle.yimarotu_driven_forwarder.proofs.Groups.{UnderWay}
use Rattle.yimarotu_driven_forwarder.proofs.servers.set_groups.Given as goal

abbrev pub invariant-loop-group : goal.invariant-loop-group
invariant-loop-group l = UnderWay l.fn.groups l.fn.forwarder l.forwarder l.number l.group-index
