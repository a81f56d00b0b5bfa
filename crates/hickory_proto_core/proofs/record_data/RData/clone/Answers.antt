use Rattle.std.proofs.Common.{rules}
use Rattle.hickory_proto_core.proofs.record_data.RData.clone.Goals as goal

pub returns-clause-ok : goal.returns-clause-ok
returns-clause-ok c = search rules
