use Rattle.std.proofs.Common.{◌≡◌, ◌++◌}
use Rattle.hickory_resolver_config.proofs.resolver_config.of_group.Given as goal

abbrev pub invariant-loop-server : goal.invariant-loop-server
invariant-loop-server l = l.name_servers.items ++ l.server-iterator ≡ l.fn.servers
