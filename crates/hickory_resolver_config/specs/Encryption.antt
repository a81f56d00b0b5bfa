-- Opportunistic encryption (RFC 9539).
use Rattle.std.specs.Prelude.{ℕ, Bool, true, false, Option, None, Some}
use Rattle.hickory_resolver_config.specs.declared.opportunistic_encryption.OpportunisticEncryption.{OpportunisticEncryption}
use Rattle.hickory_resolver_config.specs.declared.opportunistic_encryption.OpportunisticEncryption.TheVariants.{Disabled, Enabled}

abbrev pub is_enabled : OpportunisticEncryption → Bool
is_enabled Disabled = false
is_enabled (Enabled config) = true

-- how many servers are tried at a time, where they are
abbrev pub max_concurrent_probes : OpportunisticEncryption → Option ℕ
max_concurrent_probes Disabled = None
max_concurrent_probes (Enabled config) = Some config.max_concurrent_probes

-- where nothing is said, servers are not tried
abbrev pub default_encryption : OpportunisticEncryption
default_encryption = Disabled
