use Rattle.hickory_resolver_theorems.proofs.CallsAlike.{call_driven_alike}
use Rattle.hickory_resolver_theorems.proofs.laws.a_driven_call_blocks.Goals as goal

pub returns : goal.returns
returns c = call_driven_alike
