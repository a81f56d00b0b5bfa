use Rattle.std.proofs.Common.{inr}
use Rattle.hickory_resolver.proofs.explaining.find_answerer.Goals as goal

pub returns-then-skips_hosts : goal.returns-then-skips_hosts
returns-then-skips_hosts g c = inr (c.skips_hosts.ensures.none c.if-skips_hosts.true c.args.now, c.by_client.ensures)
