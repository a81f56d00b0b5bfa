use Rattle.hickory_resolver_hosts.proofs.LinesRead.{address_read}
use Rattle.hickory_resolver_hosts.proofs.lines.address_of.Goals as goal

pub returns : goal.returns
returns c = address_read c.args.field.now c.utf8.field c.read_ip.result c.read_ip.ensures
