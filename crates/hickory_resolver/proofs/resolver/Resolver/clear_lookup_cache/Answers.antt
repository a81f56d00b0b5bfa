use Rattle.std.proofs.Common.{rules}
use Rattle.hickory_resolver.proofs.resolver.Resolver.clear_lookup_cache.Goals as goal

pub returns-in-Err-OutOfMemory-clause-ok : goal.returns-in-Err-OutOfMemory-clause-ok
returns-in-Err-OutOfMemory-clause-ok g c = search rules
