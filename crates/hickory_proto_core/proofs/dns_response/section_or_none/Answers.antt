use Rattle.std.proofs.Common.{rules}
use Rattle.hickory_proto_core.proofs.dns_response.section_or_none.Goals as goal

pub returns-then-is_empty : goal.returns-then-is_empty
returns-then-is_empty c = search rules
