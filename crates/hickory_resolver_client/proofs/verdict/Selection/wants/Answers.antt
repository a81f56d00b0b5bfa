use Rattle.std.proofs.Common.{rules}
use Rattle.hickory_resolver_client.proofs.verdict.Selection.wants.Goals as goal

pub returns-then-self-2 : goal.returns-then-self-2
returns-then-self-2 c = search rules
