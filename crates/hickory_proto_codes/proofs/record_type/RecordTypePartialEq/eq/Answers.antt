use Rattle.std.proofs.Common.{rules}
use Rattle.hickory_proto_codes.proofs.record_type.RecordTypePartialEq.eq.Goals as goal

pub returns : goal.returns
returns c = search rules
