use Rattle.std.proofs.Common.{◌≡◌, take}
use Rattle.hickory_resolver_pool.specs.Servers.{states_of}
use Rattle.hickory_resolver_pool.proofs.servers.servers_of.Given as goal

abbrev pub invariant-loop-one : goal.invariant-loop-one
invariant-loop-one l = l.out ≡ states_of (take l.one-index l.servers)
