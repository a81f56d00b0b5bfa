use Rattle.std.proofs.Common.{[], Err, List, Ok, inl, subst}
use Rattle.hickory_resolver.specs.Reading.{IsBytesRead}
use Rattle.hickory_resolver_model.specs.Hosts.{Host}
use Rattle.conversation.proofs.Beginnings.{hosts_told, made}
use Rattle.conversation.proofs.opening.make_over.Goals as goal

pub returns-in-Ok : goal.returns-in-Ok
returns-in-Ok c =
    made c.args.configuration c.args.hosts.now c.args.now c.read_hosts_bytes.new.self c.resolver_of.result c.requires
    (subst (λ (before : List Host). IsBytesRead c.args.now c.args.hosts.now before (Ok tt) c.read_hosts_bytes.new.self) c.default-table.ensures c.in-Ok.ensures) c.resolver_of.ensures

pub returns-in-Err : goal.returns-in-Err
returns-in-Err c =
    inl (hosts_told c.args.configuration c.args.hosts.now c.args.now c.in-Err.error c.read_hosts_bytes.new.self c.from.result c.requires
    (subst (λ (before : List Host). IsBytesRead c.args.now c.args.hosts.now before (Err c.in-Err.error) c.read_hosts_bytes.new.self) c.default-table.ensures c.in-Err.ensures) c.from.ensures)
