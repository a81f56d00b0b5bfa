use Rattle.std.proofs.Common.{Ok, refl, rules}
use Rattle.hickory_resolver_pool.specs.Servers.{first_fixed}
use Rattle.yimarotu_driven_forwarder.proofs.Fixed.{Ended, first_told, none_fixed}
use Rattle.yimarotu_driven_forwarder.proofs.servers.set_group.Goals as goal

pub returns-in-Ok : goal.returns-in-Ok
returns-in-Ok c =
    let ended : Ended = Ok tt in
    (none_fixed (first_fixed c.args.servers.now) ended refl c.in-Ok.ensures.fixed, search rules)

pub returns-in-Err-FixedPort : goal.returns-in-Err-FixedPort
returns-in-Err-FixedPort c = (
  first_told (first_fixed c.args.servers.now) c.in-Err-FixedPort.place c.in-Err-FixedPort.field-0
      c.in-Err-FixedPort.field-0-is c.in-Err-FixedPort.ensures.fixed c.in-Err-FixedPort.ensures.free,
  search rules,
)
