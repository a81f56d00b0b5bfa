use Rattle.std.proofs.Common.{rules}
use Rattle.hickory_proto_names.proofs.name.Name.from_labels.Goals as goal

pub returns-clause-ok : goal.returns-clause-ok
returns-clause-ok c = search rules
