use Rattle.std.proofs.Common.{rules}
use Rattle.replay_script.proofs.script.response_of.Goals as goal

pub returns-clause-ok : goal.returns-clause-ok
returns-clause-ok c = search rules
