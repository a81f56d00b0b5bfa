use Rattle.std.proofs.Common.{rules}
use Rattle.hickory_proto_codes.proofs.response_code.ResponseCode.from_word.Goals as goal

pub returns-in_default : goal.returns-in_default
returns-in_default c = search rules
