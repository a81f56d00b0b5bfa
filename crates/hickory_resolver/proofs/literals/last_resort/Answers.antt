use Rattle.std.proofs.Common.{rules}
use Rattle.hickory_resolver.proofs.literals.last_resort.Goals as goal

pub returns : goal.returns
returns c = search rules
