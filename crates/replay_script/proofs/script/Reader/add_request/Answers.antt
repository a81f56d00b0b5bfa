use Rattle.std.proofs.Common.{rules}
use Rattle.replay_script.proofs.script.Reader.add_request.Goals as goal

pub returns-clause-in_order : goal.returns-clause-in_order
returns-clause-in_order c = search rules
