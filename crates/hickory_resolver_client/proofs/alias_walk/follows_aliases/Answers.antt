use Rattle.std.proofs.Common.{rules}
use Rattle.hickory_resolver_client.proofs.alias_walk.follows_aliases.Goals as goal

pub returns-then-ne : goal.returns-then-ne
returns-then-ne c = search rules
