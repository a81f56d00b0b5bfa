use Rattle.std.proofs.Common.{rules}
use Rattle.hickory_proto_core.proofs.net_error.NetErrorFromNameError.from.Goals as goal

pub returns-in_default : goal.returns-in_default
returns-in_default c = search rules
