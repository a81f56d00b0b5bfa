use Rattle.std.proofs.Common.{rules}
use Rattle.replay_script.proofs.data_fields.read_service.Goals as goal

pub returns-in_err-weight : goal.returns-in_err-weight
returns-in_err-weight c = search rules

pub returns-in_err-port : goal.returns-in_err-port
returns-in_err-port c = search rules

pub returns-in_err-target : goal.returns-in_err-target
returns-in_err-target c = search rules

pub returns : goal.returns
returns c = search rules
