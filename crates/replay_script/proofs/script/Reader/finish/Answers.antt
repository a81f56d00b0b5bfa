use Rattle.std.proofs.Common.{rules}
use Rattle.replay_script.proofs.script.Reader.finish.Goals as goal

pub returns : goal.returns
returns c = search rules
