use Rattle.std.proofs.Common.{arith}
use Rattle.std.proofs.lemmas.Grind.{common_steps}
use Rattle.replay_script.proofs.option_line.read_option.Goals as goal

pub returns-in_err-option : goal.returns-in_err-option
returns-in_err-option c = grind (arith, common_steps)

pub returns : goal.returns
returns c = grind (arith, common_steps)
