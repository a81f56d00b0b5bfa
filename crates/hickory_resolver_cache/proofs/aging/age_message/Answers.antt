use Rattle.std.proofs.Common.{rules}
use Rattle.hickory_resolver_cache.proofs.aging.age_message.Goals as goal

pub returns : goal.returns
returns c = search rules
