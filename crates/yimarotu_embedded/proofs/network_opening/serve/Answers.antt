use Rattle.std.proofs.Common.{◌≡◌, List, rules, subst}
use Rattle.hickory_proto_core.specs.Handles.{OutcomeValue}
use Rattle.hickory_resolver_model.specs.Resolver.{ResolverValue}
use Rattle.hickory_resolver_pool.specs.Servers.{PoolServerValue}
use Rattle.yimarotu_embedded.specs.NetworkOpening.{IsBegun, resolver_over}
use Rattle.yimarotu_embedded.proofs.network_opening.serve.Goals as goal

pub returns-in-Ok : goal.returns-in-Ok
returns-in-Ok c =
    let same : c.in-Ok.resolver ≡ resolver_over c.args.settings c.args.hosts = search rules in
    let P : ResolverValue (List OutcomeValue) → Type 0 = λ r. IsBegun c.args.settings.servers r c.args.seeds.pool c.begin.result in
    let Q : List PoolServerValue → Type 0 = λ servers. IsBegun servers c.in-Ok.resolver c.args.seeds.pool c.begin.result in
    let lent : c.deref.result.now ≡ c.args.settings.servers = search rules in
    subst P same (subst Q lent c.begin.ensures)
