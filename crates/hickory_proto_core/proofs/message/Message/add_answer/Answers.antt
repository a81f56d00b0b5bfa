use Rattle.std.proofs.Common.{rules}
use Rattle.hickory_proto_core.proofs.message.Message.add_answer.Goals as goal

pub returns-clause-ok : goal.returns-clause-ok
returns-clause-ok c = search rules
