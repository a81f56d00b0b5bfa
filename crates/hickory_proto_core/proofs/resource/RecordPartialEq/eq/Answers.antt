use Rattle.std.proofs.Common.{rules}
use Rattle.hickory_proto_core.proofs.resource.RecordPartialEq.eq.Goals as goal

pub returns-then-self-other : goal.returns-then-self-other
returns-then-self-other c = search rules
