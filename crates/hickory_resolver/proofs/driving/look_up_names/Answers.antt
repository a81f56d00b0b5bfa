use Rattle.std.proofs.Common.{reverse}
use Rattle.hickory_resolver.specs.CallSteps.{plan_value}
use Rattle.hickory_resolver.proofs.driving.look_up_names.Goals as goal

pub returns : goal.returns
returns g c =
    c.drive.ensures.names c.args.client.now c.args.now (plan_value c.args.sought c.args.literal c.args.now)
    c.args.with_hosts (reverse c.args.names.items) c.start_names-progress.ensures.starts
    c.start_names-progress.ensures.stays
