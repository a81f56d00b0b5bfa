use Rattle.hickory_resolver_model.specs.Run.{name_call}
use Rattle.hickory_resolver_theorems.proofs.PromisedCalls.{promised_name}
use Rattle.hickory_resolver.proofs.resolver.Resolver.lookup.Goals as goal

pub returns : goal.returns
returns g c =
    let started = c.start_lookup-progress.ensures.starts in
    promised_name g.H.DnsHandle.step (g.N.IntoName.into_name_gives c.args.name) c.args.record_type c.args.now
    c.args.self.now c.drive.result c.drive.new.self c.start_lookup-progress.ensures.cache (
      started.0,
      started.1,
      c.drive.ensures.call c.args.self.now c.args.now (name_call c.args.record_type started.0) started.2,
    )
