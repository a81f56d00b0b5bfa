use Rattle.std.proofs.Common.{false, List, reverse, subst}
use Rattle.hickory_resolver_model.specs.Hosts.{Host}
use Rattle.hickory_resolver_model.specs.Resolver.{LooksUp}
use Rattle.hickory_resolver_model.specs.Run.{name_plan}
use Rattle.hickory_resolver.proofs.lookup_future.LookupFuture.lookup.Goals as goal

pub returns : goal.returns
returns g c =
    let L : List Host → Type 0 = λ hosts. LooksUp g.H.DnsHandle.step c.args.options hosts c.args.now
    (name_plan c.args.record_type) false (reverse c.args.names.items) c.args.client.now c.look_up_names.result
    c.look_up_names.new.client in
    subst L c.default-hosts.ensures c.look_up_names.ensures
