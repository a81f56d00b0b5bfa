use native.Mathlib.Omega.{arith}
use Rattle.std.proofs.lemmas.Grind.{common_steps}
use Rattle.hickory_proto_names.proofs.name.Name.base_name.Goals as goal

pub returns-in-0-clause-ok : goal.returns-in-0-clause-ok
returns-in-0-clause-ok c = grind (arith, common_steps)
