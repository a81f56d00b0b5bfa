use Rattle.std.proofs.Common.{rules}
use Rattle.hickory_resolver_attempts.proofs.search.is_raw_first.Goals as goal

pub returns-then-ndots-from : goal.returns-then-ndots-from
returns-then-ndots-from c = search rules
