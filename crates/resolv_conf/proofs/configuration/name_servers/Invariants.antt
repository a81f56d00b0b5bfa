use Rattle.std.proofs.Common.{◌≡◌, map, take}
use Rattle.hickory_resolver_config.specs.Servers.{server_over}
use Rattle.resolv_conf.specs.ResolvConf.{protocols_of}
use Rattle.resolv_conf.proofs.configuration.name_servers.Given as goal

abbrev pub invariant-loop-address : goal.invariant-loop-address
invariant-loop-address l = l.servers.items ≡ map (server_over (protocols_of l.settings)) (take l.address-index l.addresses)
