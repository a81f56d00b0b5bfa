use Rattle.std.proofs.Common.{rules}
use Rattle.hickory_resolver_hosts.proofs.hosts.Hosts.lookup_static_host.Goals as goal

pub returns-in-1-clause-ok : goal.returns-in-1-clause-ok
returns-in-1-clause-ok g c = search rules
