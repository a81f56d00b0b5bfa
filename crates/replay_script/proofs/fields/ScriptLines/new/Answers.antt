use Rattle.std.proofs.Common.{rules}
use Rattle.replay_script.proofs.fields.ScriptLines.new.Goals as goal

pub returns : goal.returns
returns c = search rules
