use Rattle.std.proofs.Common.{inl, arith}
use Rattle.std.proofs.lemmas.Grind.{common_steps}
use Rattle.replay_script.proofs.WrongCounts.{reply_short}
use Rattle.replay_script.proofs.reply_line.read_reply.Goals as goal

pub returns-in_default : goal.returns-in_default
returns-in_default c = rw c.wrong_line.ensures (inl (reply_short _ c.in_default.len_below))

pub returns-in_err-head : goal.returns-in_err-head
returns-in_err-head c = grind (arith, common_steps)

pub returns : goal.returns
returns c = grind (arith, common_steps)
