use Rattle.hickory_resolver_askers.proofs.Limits.{stays_within_limits}
use Rattle.hickory_resolver_askers.proofs.laws.stays_within_limits.Goals as goal

pub returns : goal.returns
returns c = stays_within_limits
