use Rattle.std.proofs.Common.{rules}
use Rattle.hickory_resolver.proofs.literals.literal_at_once.Goals as goal

pub returns : goal.returns
returns c = search rules
