use Rattle.std.proofs.Common.{rules}
use Rattle.replay_script.proofs.option_line.OptionLine.set.Goals as goal

pub returns-in-PositiveMinTtl : goal.returns-in-PositiveMinTtl
returns-in-PositiveMinTtl c = search rules
