use Rattle.std.proofs.Common.{ap}
use Rattle.hickory_resolver_model.specs.Resolver.{ResolverValue}
use Rattle.hickory_resolver.proofs.Starting.{resumed_at}
use Rattle.hickory_resolver.proofs.resolver.Resolver.resume.Goals as goal

pub returns : goal.returns
returns g c =
    let with_client : ResolverValue _ → ResolverValue _ = λ r. record r { client = c.resume_call.new.client } in
    resumed_at c.args.self.now c.args.waiting c.args.outcome _ _ _ _ _ (ap (λ r. r.hosts) c.self.view_is)
    (ap (λ r. r.client) c.self.view_is) c.resume_call.ensures.resumes c.resume_call.ensures.stays (ap with_client c.self.view_is)
