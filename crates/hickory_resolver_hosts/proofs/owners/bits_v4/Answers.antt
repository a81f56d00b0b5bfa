use Rattle.std.proofs.Common.{ap, ◌∙◌}
use Rattle.std.specs.Int.{w32, from_be_bytes}
use Rattle.std.specs.Net.Addr.{ipv4_bits}
use Rattle.hickory_resolver_hosts.proofs.owners.bits_v4.Goals as goal

pub returns-clause-bits : goal.returns-clause-bits
unfolding ipv4_bits
returns-clause-bits c = c.from_be_bytes.ensures ∙ ap (from_be_bytes w32) c.octets.ensures
