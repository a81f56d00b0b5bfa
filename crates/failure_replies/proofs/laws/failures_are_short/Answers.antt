use Rattle.failure_replies.proofs.Short.{failures_are_short}
use Rattle.failure_replies.proofs.laws.failures_are_short.Goals as goal

pub returns : goal.returns
returns c = failures_are_short
