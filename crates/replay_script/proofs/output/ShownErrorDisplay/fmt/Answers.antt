use Rattle.std.proofs.Common.{rules}
use Rattle.replay_script.proofs.output.ShownErrorDisplay.fmt.Goals as goal

pub returns-in-Timeout-clause-writes : goal.returns-in-Timeout-clause-writes
returns-in-Timeout-clause-writes g c = search rules
