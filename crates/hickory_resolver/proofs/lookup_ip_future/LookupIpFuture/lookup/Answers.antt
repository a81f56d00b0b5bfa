use Rattle.std.proofs.Common.{true, reverse, sym, subst}
use Rattle.std.specs.Option.{option_map}
use Rattle.hickory_proto_core.specs.Records.{data_of}
use Rattle.hickory_resolver_model.specs.Calls.{last_resort}
use Rattle.hickory_resolver_model.specs.Lookup.{LookupResult}
use Rattle.hickory_resolver_model.specs.Resolver.{LooksUp}
use Rattle.hickory_resolver_model.specs.Run.{address_plan}
use Rattle.hickory_resolver.proofs.lookup_ip_future.LookupIpFuture.lookup.Goals as goal

pub returns : goal.returns
returns g c =
    let L : LookupResult → Type 0 = λ r. LooksUp g.H.DnsHandle.step c.args.options c.args.hosts.now c.args.now
    (address_plan c.args.strategy (option_map (λ rdata. last_resort (data_of rdata) c.args.now)
    c.args.finally_ip_addr)) true (reverse c.args.names.items) c.args.client.now r c.look_up_names.new.client in
    subst L (sym c.as_addresses.ensures) c.look_up_names.ensures
