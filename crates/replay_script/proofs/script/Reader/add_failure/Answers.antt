use Rattle.std.proofs.Common.{rules}
use Rattle.replay_script.proofs.script.Reader.add_failure.Goals as goal

pub returns-clause-ok : goal.returns-clause-ok
returns-clause-ok c = search rules
