use Rattle.std.proofs.Common.{ap}
use Rattle.std.specs.Option.{option_map}
use Rattle.resolv_conf.specs.Servers.{plain_server}
use Rattle.resolv_conf.proofs.server.plain_server.Goals as goal

pub returns-in-Some : goal.returns-in-Some
returns-in-Some c = ap (option_map plain_server) c.in-Some.ensures

pub returns-in-None : goal.returns-in-None
returns-in-None c = ap (option_map plain_server) c.in-None.ensures
