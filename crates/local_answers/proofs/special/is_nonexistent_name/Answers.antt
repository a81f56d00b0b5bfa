use Rattle.std.proofs.Common.{rules}
use Rattle.local_answers.proofs.special.is_nonexistent_name.Goals as goal

pub returns-then-is_below : goal.returns-then-is_below
returns-then-is_below c = search rules
