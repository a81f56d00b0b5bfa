use Rattle.std.proofs.Common.{rules}
use Rattle.hickory_resolver_cache.proofs.entry.positive_entry.Goals as goal

pub returns : goal.returns
returns c = search rules
