use Rattle.std.proofs.Common.{rules}
use Rattle.replay_script.proofs.configuration.Configuration.set.Goals as goal

pub returns-in-Domain-clause-ok : goal.returns-in-Domain-clause-ok
returns-in-Domain-clause-ok c = search rules
