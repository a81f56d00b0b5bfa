use Rattle.std.proofs.Common.{rules}
use Rattle.hickory_proto_core.proofs.query.QueryPartialEq.eq.Goals as goal

pub returns-then-eq-2 : goal.returns-then-eq-2
returns-then-eq-2 c = search rules
