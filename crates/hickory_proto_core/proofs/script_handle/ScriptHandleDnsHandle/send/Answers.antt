use Rattle.std.proofs.Common.{rules}
use Rattle.hickory_proto_core.proofs.script_handle.ScriptHandleDnsHandle.send.Goals as goal

pub returns : goal.returns
returns c = search rules
