use Rattle.std.proofs.Common.{rules}
use Rattle.hickory_resolver_config.proofs.protocol_config.ProtocolConfigPartialEq.eq.Goals as goal

pub returns-then-eq-2 : goal.returns-then-eq-2
returns-then-eq-2 c = search rules
