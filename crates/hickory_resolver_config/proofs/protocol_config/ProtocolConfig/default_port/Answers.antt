use Rattle.std.proofs.Common.{rules}
use Rattle.hickory_resolver_config.proofs.protocol_config.ProtocolConfig.default_port.Goals as goal

pub returns-in-Tls : goal.returns-in-Tls
returns-in-Tls c = search rules
