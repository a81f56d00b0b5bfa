use Rattle.std.proofs.Common.{◌≡◌, take}
use Rattle.std.specs.Prelude.{map}
use Rattle.hickory_resolver_pool.specs.Servers.{sources_of}
use Rattle.hickory_resolver_pool.proofs.servers.all_sources.Given as goal

abbrev pub invariant-loop-one : goal.invariant-loop-one
invariant-loop-one l = l.out.items ≡ map sources_of (take l.one-index l.servers)
