use Rattle.std.proofs.Common.{rules}
use Rattle.hickory_proto_names.proofs.name_text.Measure.check.Goals as goal

pub returns-clause-ok : goal.returns-clause-ok
returns-clause-ok c = search rules
