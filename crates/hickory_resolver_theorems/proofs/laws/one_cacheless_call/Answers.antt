use Rattle.hickory_resolver_theorems.proofs.CallReplies.{one_cacheless_call}
use Rattle.hickory_resolver_theorems.proofs.laws.one_cacheless_call.Goals as goal

pub returns : goal.returns
returns c = one_cacheless_call
