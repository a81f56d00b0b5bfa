use Rattle.std.proofs.Common.{◌≡◌, ◌∙◌, ap}
use Rattle.hickory_resolver_config.specs.ResolverConfig.{OptionsValue}
use Rattle.hickory_resolver_model.specs.Client.{ClientValue}
use Rattle.hickory_resolver_model.specs.Resolver.{ResolverValue}
use Rattle.hickory_resolver.proofs.resolver.Resolver.new.Goals as goal

pub returns : goal.returns
returns g c =
    let preserves : c.options.inside.preserve_intermediates ≡ c.args.options.preserve_intermediates =
    ap (λ (o : OptionsValue). o.preserve_intermediates) c.options.view_is in
    let with_client : ClientValue g.row.H.Denot → ResolverValue g.row.H.Denot =
    λ x. record { client = x; hosts = c.args.hosts; config = c.args.config; options = c.args.options } in
    ap with_client (c.with_cache-client.ensures ∙ (λ i.
    record { cache = c.args.cache; handle = c.args.handle; preserve_intermediates = preserves i }))
