use Rattle.std.proofs.Common.{◌∙◌, rules, ap, reverse}
use Rattle.std.proofs.lemmas.List.{reverse-reverse}
use Rattle.hickory_resolver_model.specs.Resolver.{ResolverValue}
use Rattle.hickory_resolver.specs.CallSteps.{plan_value}
use Rattle.hickory_resolver.proofs.Starting.{started_names}
use Rattle.hickory_resolver.proofs.resolver.Resolver.start_call.Goals as goal

pub returns-in-Err : goal.returns-in-Err
returns-in-Err g c = search rules

pub returns-in-Ok : goal.returns-in-Ok
returns-in-Ok g c =
    let with_client : ResolverValue _ → ResolverValue _ = λ r. record r { client = c.start_names.new.client } in
    started_names c.args.self.now c.args.now (plan_value c.args.sought c.args.literal c.args.now) c.args.name _ _ _ _ _ _
    (ap (λ r. r.hosts) c.self.view_is)
    (ap (λ r. r.client) c.self.view_is)
    (ap (λ ns. reverse ns) c.reverse.ensures.items ∙ reverse-reverse _ ∙ c.in-Ok.ensures)
    c.start_names.ensures.starts
    c.start_names.ensures.stays
    (ap with_client c.self.view_is)
