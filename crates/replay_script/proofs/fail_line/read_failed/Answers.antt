use Rattle.std.proofs.Common.{rules}
use Rattle.replay_script.proofs.fail_line.read_failed.Goals as goal

pub returns : goal.returns
returns c = search rules
