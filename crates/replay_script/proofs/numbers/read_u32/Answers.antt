use Rattle.std.proofs.Common.{rules}
use Rattle.replay_script.proofs.numbers.read_u32.Goals as goal

pub returns : goal.returns
returns c = search rules
