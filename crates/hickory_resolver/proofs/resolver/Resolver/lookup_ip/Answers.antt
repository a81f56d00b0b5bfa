use Rattle.std.proofs.Common.{sym, subst}
use Rattle.hickory_resolver_client.specs.Contexts.{progress_of}
use Rattle.hickory_resolver_model.specs.Lookup.{LookupResult}
use Rattle.hickory_resolver_theorems.specs.CallFacts.{PromisesHost}
use Rattle.hickory_resolver_theorems.proofs.PromisedCalls.{promised_host}
use Rattle.hickory_resolver.proofs.Answering.{host_ended}
use Rattle.hickory_resolver.proofs.resolver.Resolver.lookup_ip.Goals as goal

pub returns : goal.returns
returns g c =
    let spells = g.N.IntoName.to_ip_gives c.args.host in
    let gives = g.N.IntoName.into_name_gives c.args.host in
    let R : LookupResult → Type 0 = λ r. PromisesHost g.H.DnsHandle.step spells gives c.args.now c.args.self.now r
    c.drive.new.self in
    subst R (sym c.as_addresses.ensures)
    (promised_host g.H.DnsHandle.step spells gives c.args.now c.args.self.now c.drive.result c.drive.new.self
    c.start_lookup_ip-progress.ensures.cache
    (host_ended g.H.DnsHandle.step spells gives c.args.now c.args.self.now
    (progress_of c.start_lookup_ip-progress.result) c.start_lookup_ip-progress.new.self c.drive.result
    c.drive.new.self c.start_lookup_ip-progress.ensures.starts c.drive.ensures.call c.drive.ensures.given))
