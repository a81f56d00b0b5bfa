use Rattle.std.proofs.Common.{rules}
use Rattle.hickory_proto_core.proofs.recorded.RecordedDnsHandle.send.Goals as goal

pub returns : goal.returns
returns g c = search rules
