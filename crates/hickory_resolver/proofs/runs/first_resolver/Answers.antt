use Rattle.std.proofs.Common.{[], ◌∙◌, ap}
use Rattle.hickory_resolver.proofs.FirstCaches.{first_over}
use Rattle.hickory_resolver.proofs.runs.first_resolver.Goals as goal

pub returns-in-Ok : goal.returns-in-Ok
returns-in-Ok g c =
    first_over c.args.config c.args.options (record { handle = c.args.handle; exchanges = [] }) c.args.hosts
    c.in-Ok.cache c.in-Ok.ensures _ (c.resolver_over.ensures
    ∙ ap (λ h. record {
      client = record { cache = c.in-Ok.cache; handle = h; preserve_intermediates = c.args.options.preserve_intermediates };
      hosts = c.args.hosts;
      config = c.args.config;
      options = c.args.options;
    }) c.new-handle.ensures)
