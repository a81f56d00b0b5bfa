use Rattle.std.proofs.Common.{rules}
use Rattle.hickory_proto_names.proofs.name.NameOrd.cmp.Goals as goal

pub returns-in-Equal : goal.returns-in-Equal
returns-in-Equal c = search rules
