-- The table that a fault leaves is the one that was read so far.
use Rattle.std.proofs.Common.{rules, Err, List, subst}
use Rattle.hickory_resolver_hosts.specs.Reading.{IsBytesRead}
use Rattle.hickory_resolver_model.specs.Hosts.{Host}
use Rattle.yimarotu_driven_forwarder.proofs.hosts.read_hosts.Goals as goal

pub returns : goal.returns
returns c =
    let left = c.read_hosts_bytes.new.self in
    let read = subst (λ (before : List Host). IsBytesRead c.args.now c.args.hosts.now before (Err c.in-Err.error) left) c.with_hasher-table.ensures c.in-Err.ensures in
    (search rules, (left, read))
