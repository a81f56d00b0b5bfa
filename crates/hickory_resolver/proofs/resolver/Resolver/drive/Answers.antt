use Rattle.std.proofs.Common.{ap}
use Rattle.hickory_resolver_client.specs.Contexts.{progress_of}
use Rattle.hickory_resolver_model.specs.Resolver.{ResolverValue}
use Rattle.hickory_resolver.proofs.Answering.{driven_call}
use Rattle.hickory_resolver.proofs.resolver.Resolver.drive.Goals as goal

pub returns : goal.returns
returns g c =
    let with_client : ResolverValue g.row.H.Denot → ResolverValue g.row.H.Denot = λ r. record r { client = c.drive.new.client } in
    let after : ResolverValue g.row.H.Denot = record {
      client = c.drive.new.client;
      hosts = c.self.inside.hosts;
      config = c.self.inside.config;
      options = c.self.inside.options;
    } in
    let both = driven_call g.H.DnsHandle.step c.args.self.now c.request_options-options.result c.self.inside.hosts
    c.self.inside.client c.drive.new.client (progress_of c.args.progress) c.drive.result after
    c.request_options-options.ensures
    (ap (λ r. r.hosts) c.self.view_is)
    (ap (λ r. r.client) c.self.view_is)
    c.drive.ensures.names
    c.drive.ensures.given
    (ap with_client c.self.view_is) in
    record { call = both.0; given = both.1 }
