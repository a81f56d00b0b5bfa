use Rattle.std.proofs.Common.{rules}
use Rattle.replay_script.proofs.fields.is_skipped.Goals as goal

pub returns-in-Some : goal.returns-in-Some
returns-in-Some c = search rules
