use Rattle.std.proofs.Common.{rules}
use Rattle.hickory_resolver_config.proofs.opportunistic_encryption.OpportunisticEncryption.max_concurrent_probes.Goals as goal

pub returns-in-Enabled : goal.returns-in-Enabled
returns-in-Enabled c = search rules
