use Rattle.std.proofs.Common.{◌≡◌, ◌++◌, length}
use Rattle.std.specs.List.{filter_map}
use Rattle.hickory_resolver_hosts.specs.Index.{owners_below}
use Rattle.hickory_resolver_hosts.specs.HostsTable.{hosts_of, pointer_at}
use Rattle.hickory_resolver_hosts.proofs.pointers.pointers_of.Given as goal

abbrev pub invariant-loop-pair : goal.invariant-loop-pair
invariant-loop-pair g l =
    l.records.items ++ filter_map (λ q. pointer_at l.owner (hosts_of l.names.entries) q.1) l.pair-iterator
    ≡ filter_map (λ q. pointer_at l.owner (hosts_of l.names.entries) q.1)
    (owners_below g.B.Ord.cmp l.owners l.fn.bits (length l.names.entries))
