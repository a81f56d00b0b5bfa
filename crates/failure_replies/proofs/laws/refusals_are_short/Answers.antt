use Rattle.failure_replies.proofs.Short.{refusals_are_short}
use Rattle.failure_replies.proofs.laws.refusals_are_short.Goals as goal

pub returns : goal.returns
returns c = refusals_are_short
