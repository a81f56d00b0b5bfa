use Rattle.std.proofs.Common.{◌≡◌, ◌-◌}
use Rattle.hickory_proto_wire.specs.Octets.{with_front}
use Rattle.hickory_proto_wire.specs.Records.{repeat_at, record_at}
use Rattle.hickory_proto_wire.proofs.wire_record.records_at.Given as goal

abbrev pub invariant-loop : goal.invariant-loop
invariant-loop l =
    (with_front l.records.items (repeat_at (record_at l.bytes) (l.count - l.counter) l.at)
    ≡ repeat_at (record_at l.bytes) l.count l.fn.at) × (l.names ≡ l.fn.names)
