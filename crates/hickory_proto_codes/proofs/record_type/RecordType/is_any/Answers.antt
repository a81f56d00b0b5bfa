use Rattle.std.proofs.Common.{rules}
use Rattle.hickory_proto_codes.proofs.record_type.RecordType.is_any.Goals as goal

pub returns : goal.returns
returns c = search rules
