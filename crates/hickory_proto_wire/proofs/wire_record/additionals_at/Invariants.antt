use Rattle.std.proofs.Common.{◌≡◌, ◌-◌}
use Rattle.hickory_proto_wire.specs.Records.{additionals_at, nothing_found}
use Rattle.hickory_proto_wire.proofs.wire_record.additionals_at.Given as goal

abbrev pub invariant-loop : goal.invariant-loop
invariant-loop l =
    (additionals_at (l.count - l.counter) l.bytes l.at l.found
    ≡ additionals_at l.count l.bytes l.fn.at nothing_found) × (l.names ≡ l.fn.names)
