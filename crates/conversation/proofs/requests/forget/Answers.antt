use Rattle.std.proofs.Common.{None}
use Rattle.conversation.proofs.Held.{puts_updated}
use Rattle.conversation.proofs.requests.forget.Goals as goal

pub returns : goal.returns
returns c = puts_updated c.args.mark.now c.args.requests.now c.remove-forgotten.new.self None c.remove-forgotten.ensures.updates
