use Rattle.std.proofs.Common.{inl}
use Rattle.replay_script.proofs.WrongCounts.{request_short}
use Rattle.replay_script.proofs.request_line.read_request.Goals as goal

pub returns-in_default : goal.returns-in_default
returns-in_default c = rw c.wrong_line.ensures (inl (request_short _ c.in_default.len_below))
