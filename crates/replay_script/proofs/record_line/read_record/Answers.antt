use Rattle.std.proofs.Common.{inl, arith}
use Rattle.std.proofs.lemmas.Grind.{common_steps}
use Rattle.replay_script.proofs.WrongCounts.{record_short}
use Rattle.replay_script.proofs.record_line.read_record.Goals as goal

pub returns-in_default : goal.returns-in_default
returns-in_default c = rw c.wrong_line.ensures (inl (record_short _ c.in_default.len_below))

pub returns : goal.returns
returns c = grind (arith, common_steps)
