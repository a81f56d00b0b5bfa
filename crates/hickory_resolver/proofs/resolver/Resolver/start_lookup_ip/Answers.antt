use Rattle.std.proofs.Common.{Ok, inl}
use Rattle.hickory_resolver_model.specs.Resuming.{IsDone}
use Rattle.hickory_resolver.proofs.Starting.{host_said}
use Rattle.hickory_resolver.proofs.resolver.Resolver.start_lookup_ip.Goals as goal

pub returns-in-Ok : goal.returns-in-Ok
returns-in-Ok g c = record {
  starts = (
    c.to_ip-address.result,
    c.to_ip-address.ensures,
    Ok c.in-Ok.name,
    c.in-Ok.ensures,
    inl ((λ e. cc), c.start_host.ensures),
  );
  cache = c.alloc.ensures.cache;
}

pub returns-in-Err : goal.returns-in-Err
returns-in-Err g c = record {
  starts =
      host_said c.args.self.now (g.N.IntoName.to_ip_gives c.args.host) (g.N.IntoName.into_name_gives c.args.host)
      c.args.now c.to_ip-address.result c.in-Err.fault (IsDone c.literal_or_fault.result) c.to_ip-address.ensures
      c.in-Err.ensures c.literal_or_fault.ensures;
  cache = c.alloc.ensures.cache;
}
