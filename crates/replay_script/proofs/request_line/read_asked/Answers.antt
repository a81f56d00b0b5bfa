use Rattle.std.proofs.Common.{rules}
use Rattle.replay_script.proofs.request_line.read_asked.Goals as goal

pub returns-in-clear_lookup : goal.returns-in-clear_lookup
returns-in-clear_lookup c = search rules
