use Rattle.std.proofs.Common.{rules}
use Rattle.hickory_resolver_client.proofs.special_use.is_nonexistent_name.Goals as goal

pub returns-then-is_below : goal.returns-then-is_below
returns-then-is_below c = search rules
