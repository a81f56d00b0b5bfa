use Rattle.hickory_resolver_theorems.proofs.Driven.{driven_alike}
use Rattle.hickory_resolver_theorems.proofs.laws.a_driven_look_up_blocks.Goals as goal

pub returns : goal.returns
returns c = driven_alike
