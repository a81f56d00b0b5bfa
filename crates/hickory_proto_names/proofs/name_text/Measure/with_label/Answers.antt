use Rattle.std.proofs.Common.{rules}
use Rattle.hickory_proto_names.proofs.name_text.Measure.with_label.Goals as goal

pub returns-then-self-2 : goal.returns-then-self-2
returns-then-self-2 c = search rules
