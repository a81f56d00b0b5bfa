use Rattle.std.proofs.Common.{rules}
use Rattle.replay_script.proofs.fault.ScriptError.out_of_memory.Goals as goal

pub returns : goal.returns
returns c = search rules
