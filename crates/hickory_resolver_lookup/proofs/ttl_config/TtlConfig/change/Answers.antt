use Rattle.std.proofs.Common.{refl}
use Rattle.hickory_resolver_lookup.proofs.BoundsByType.{sets_bounds}
use Rattle.hickory_resolver_lookup.proofs.ttl_config.TtlConfig.change.Goals as goal

pub returns : goal.returns
returns c =
    let u = c.in_ok-insert.ensures.updates in
    let set = sets_bounds c.self.inside.default c.self.inside.by_type.entries c.insert.new.self.entries c.code.result c.args.bounds u.1 u.2 in
    ((refl, (λ w. refl), tt), record { rests = tt; same_reference = refl; ok = rw (← c.self.view_is, ← c.code.ensures) set; err = tt })
