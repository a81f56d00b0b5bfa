use Rattle.std.proofs.Common.{rules}
use Rattle.replay.proofs.error.ReplayError.status.Goals as goal

pub returns-in-Hosts : goal.returns-in-Hosts
returns-in-Hosts c = search rules
