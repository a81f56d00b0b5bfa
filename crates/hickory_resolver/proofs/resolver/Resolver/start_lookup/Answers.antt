use Rattle.std.proofs.Common.{Ok, Err, refl, ap, inl}
use Rattle.hickory_proto_core.specs.NetErrors.{net_error_of}
use Rattle.hickory_resolver_model.specs.Run.{name_call}
use Rattle.hickory_resolver.proofs.Starting.{started_at_once}
use Rattle.hickory_resolver.proofs.resolver.Resolver.start_lookup.Goals as goal

pub returns-in-Ok : goal.returns-in-Ok
returns-in-Ok g c = record {
  starts = (Ok c.in-Ok.name, c.in-Ok.ensures, c.start_call.ensures);
  cache = c.alloc.ensures.cache;
}

pub returns-in-Err : goal.returns-in-Err
returns-in-Err g c = record {
  starts = (
    Err c.in-Err.fault,
    c.in-Err.ensures,
    started_at_once c.args.self.now c.args.now (name_call c.args.record_type (Err c.in-Err.fault))
        (Err (net_error_of c.in-Err.fault)) (Err c.from.result) refl (inl (ap (λ e. Err e) c.from.ensures)),
  );
  cache = c.alloc.ensures.cache;
}
