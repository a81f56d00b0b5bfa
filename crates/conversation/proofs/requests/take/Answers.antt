use Rattle.std.proofs.Common.{None}
use Rattle.conversation.proofs.Held.{found_taken, puts_updated}
use Rattle.conversation.proofs.requests.take.Goals as goal

pub returns-clause-found : goal.returns-clause-found
returns-clause-found c = found_taken c.args.mark.now c.args.requests.now.entries c.remove.result c.remove.ensures.value

pub returns-clause-taken : goal.returns-clause-taken
returns-clause-taken c = puts_updated c.args.mark.now c.args.requests.now c.remove.new.self None c.remove.ensures.updates
