use Rattle.hickory_resolver_hosts.specs.HostsTable.{hosts_of}
use Rattle.hickory_resolver_hosts.proofs.InOrder.{if_ok, has_pointers}
use Rattle.hickory_resolver_hosts.proofs.hosts.Hosts.pointers.Goals as goal

pub returns-clause-ok : goal.returns-clause-ok
returns-clause-ok g c =
    if_ok _ (λ found. has_pointers c.args.query.now c.args.now c.in_ok-owner.owner (hosts_of c.self.inside.names.entries) c.args.self.now c.in-Ok.net c.addr.result c.in_ok-records.records.items found
    c.in_ok-owner.ensures.ok c.in-Ok.ensures.ok c.addr.ensures c.in_ok-records.ensures.ok c.self.view_is) c.pointer_lookup.ensures.ok
