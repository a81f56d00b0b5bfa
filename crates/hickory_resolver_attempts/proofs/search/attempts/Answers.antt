use Rattle.std.proofs.Common.{rules}
use Rattle.hickory_resolver_attempts.proofs.search.attempts.Goals as goal

pub returns-then-is_fqdn : goal.returns-then-is_fqdn
returns-then-is_fqdn c = search rules
