use Rattle.std.proofs.Common.{rules}
use Rattle.replay_script.proofs.setting.mode_named.Goals as goal

pub returns-in-table : goal.returns-in-table
returns-in-table c = search rules
