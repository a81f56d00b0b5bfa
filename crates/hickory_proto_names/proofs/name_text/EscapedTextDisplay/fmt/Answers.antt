use Rattle.std.proofs.Common.{rules}
use Rattle.hickory_proto_names.proofs.name_text.EscapedTextDisplay.fmt.Goals as goal

pub returns-in_default-clause-writes : goal.returns-in_default-clause-writes
returns-in_default-clause-writes g c = search rules
