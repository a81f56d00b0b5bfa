use Rattle.std.proofs.Common.{rules}
use Rattle.hickory_proto_core.proofs.dns_response.is_asked_record.Goals as goal

pub returns-then-eq : goal.returns-then-eq
returns-then-eq c = search rules
