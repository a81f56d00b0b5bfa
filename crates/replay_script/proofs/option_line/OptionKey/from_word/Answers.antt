use Rattle.std.proofs.Common.{rules}
use Rattle.replay_script.proofs.option_line.OptionKey.from_word.Goals as goal

pub returns-in-positive_max_ttl : goal.returns-in-positive_max_ttl
returns-in-positive_max_ttl c = search rules
