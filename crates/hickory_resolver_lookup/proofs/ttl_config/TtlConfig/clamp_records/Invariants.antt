use Rattle.std.proofs.Common.{◌≡◌, ◌++◌, map, take, drop}
use Rattle.hickory_resolver_model.specs.Bounds.{clamped_record}
use Rattle.hickory_resolver_lookup.proofs.ttl_config.TtlConfig.clamp_records.Given as goal

abbrev pub invariant-loop-limited : goal.invariant-loop-limited
invariant-loop-limited l =
    l.limited-items ≡ map (clamped_record l.self) (take l.limited-index l.initial.limited-items) ++ drop l.limited-index l.initial.limited-items
