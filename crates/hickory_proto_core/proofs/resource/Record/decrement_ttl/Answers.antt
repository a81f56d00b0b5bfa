use Rattle.std.proofs.Common.{rules}
use Rattle.hickory_proto_core.proofs.resource.Record.decrement_ttl.Goals as goal

pub returns : goal.returns
returns c = search rules
