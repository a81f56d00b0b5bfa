use Rattle.std.proofs.Common.{◌==◌}
use Rattle.resolv_conf.proofs.FirstOctets.{first_byte_position}
use Rattle.resolv_conf.proofs.text.octet_index.Goals as goal

pub returns : goal.returns
returns c = first_byte_position (λ b. b == c.args.octet) c.args.octets.now c.memchr.result c.memchr.ensures
