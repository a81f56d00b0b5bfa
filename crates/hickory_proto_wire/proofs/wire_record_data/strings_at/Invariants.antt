use Rattle.std.proofs.Common.{◌≡◌, ◌-◌, length}
use Rattle.hickory_proto_names.specs.Name.{label_bytes}
use Rattle.hickory_proto_wire.specs.Octets.{with_front}
use Rattle.hickory_proto_wire.specs.RecordData.{strings_at}
use Rattle.hickory_proto_wire.proofs.wire_record_data.strings_at.Given as goal

abbrev pub invariant-loop : goal.invariant-loop
invariant-loop l =
    with_front (label_bytes l.strings.items) (strings_at (length l.bytes - l.counter) l.bytes l.at)
    ≡ strings_at (length l.bytes) l.bytes l.fn.at
