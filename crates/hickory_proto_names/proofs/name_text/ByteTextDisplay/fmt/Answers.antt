use Rattle.std.proofs.Common.{arith}
use Rattle.std.proofs.Output.{has_written_of_eq}
use Rattle.hickory_proto_names.proofs.NamePrinting.{byte_digits}
use Rattle.hickory_proto_names.proofs.name_text.ByteTextDisplay.fmt.Goals as goal

pub returns-else-is_plain-clause-writes : goal.returns-else-is_plain-clause-writes
returns-else-is_plain-clause-writes g c plain ok =
    has_written_of_eq _ _ _ _ _ (byte_digits c.args.self.now.first c.args.self.now.byte (omega arith) c.if-is_plain.ensures) (c.write.ensures.writes plain ok)
