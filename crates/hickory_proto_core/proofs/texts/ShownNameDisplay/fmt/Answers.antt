use Rattle.std.proofs.Common.{arith}
use Rattle.std.proofs.lemmas.Grind.{common_steps}
use Rattle.hickory_proto_core.proofs.texts.ShownNameDisplay.fmt.Goals as goal

pub returns-then-not-is_fqdn-clause-writes : goal.returns-then-not-is_fqdn-clause-writes
returns-then-not-is_fqdn-clause-writes g c = grind (arith, common_steps)
