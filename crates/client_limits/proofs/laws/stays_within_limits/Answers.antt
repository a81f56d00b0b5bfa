use Rattle.client_limits.proofs.Bounded.{stays_within_limits}
use Rattle.client_limits.proofs.laws.stays_within_limits.Goals as goal

pub returns : goal.returns
returns c = stays_within_limits
