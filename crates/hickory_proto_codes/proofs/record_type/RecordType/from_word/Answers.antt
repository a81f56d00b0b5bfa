use Rattle.std.proofs.Common.{rules}
use Rattle.hickory_proto_codes.proofs.record_type.RecordType.from_word.Goals as goal

pub returns-in-None : goal.returns-in-None
returns-in-None c = search rules
