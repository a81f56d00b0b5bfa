use native.Mathlib.Omega.{arith}
use Rattle.std.proofs.lemmas.Grind.{common_steps}
use Rattle.hickory_resolver_attempts.proofs.search.joined_names.Goals as goal

pub returns : goal.returns
returns c = grind (arith, common_steps)
