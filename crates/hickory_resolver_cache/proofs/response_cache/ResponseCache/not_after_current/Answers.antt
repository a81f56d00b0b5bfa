use Rattle.std.proofs.Common.{rules}
use Rattle.hickory_resolver_cache.proofs.response_cache.ResponseCache.not_after_current.Goals as goal

pub returns : goal.returns
returns g c = search rules
