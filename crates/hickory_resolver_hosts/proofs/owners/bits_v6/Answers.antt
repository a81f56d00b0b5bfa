use Rattle.std.proofs.Common.{ap, ◌∙◌}
use Rattle.std.specs.Int.{w128, from_be_bytes}
use Rattle.std.specs.Net.Addr.{ipv6_bits}
use Rattle.hickory_resolver_hosts.proofs.owners.bits_v6.Goals as goal

pub returns-clause-bits : goal.returns-clause-bits
unfolding ipv6_bits
returns-clause-bits c = c.from_be_bytes.ensures ∙ ap (from_be_bytes w128) c.octets.ensures
