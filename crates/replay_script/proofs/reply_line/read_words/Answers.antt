use Rattle.std.proofs.Common.{rules}
use Rattle.replay_script.proofs.reply_line.read_words.Goals as goal

pub returns : goal.returns
returns c = search rules
