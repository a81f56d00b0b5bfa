use Rattle.std.proofs.Common.{◌≡◌, ◌++◌, take, drop}
use Rattle.hickory_resolver_servers.specs.Measures.{released}
use Rattle.hickory_resolver_servers.proofs.servers.release_each.Given as goal

abbrev pub invariant-loop-server : goal.invariant-loop-server
invariant-loop-server l =
    take l.server-index l.servers ++ released l.transaction (drop l.server-index l.servers)
    ≡ released l.transaction l.fn.servers
