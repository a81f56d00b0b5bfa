use Rattle.hickory_resolver_theorems.proofs.OneCacheless.{one_cacheless}
use Rattle.hickory_resolver_theorems.proofs.laws.one_cacheless_reply.Goals as goal

pub returns : goal.returns
returns c = one_cacheless
