use Rattle.std.proofs.Common.{◌≡◌, ◌≤◌, take, length}
use Rattle.std.specs.Prelude.{None}
use Rattle.hickory_proto_wire.specs.Written.{Body, records_added}
use Rattle.hickory_proto_wire.specs.Refused.{first_fault}
use Rattle.hickory_proto_wire.specs.Made.{record_flaw}
use Rattle.hickory_proto_wire.proofs.section_writer.add_records.Given as goal

abbrev pub invariant-loop-i : goal.invariant-loop-i
invariant-loop-i l =
    let now : Body = record { octets = l.body.items; places = l.places.items } in
    (now ≡ records_added (record { octets = l.fn.body.items; places = l.fn.places.items }) (take l.i l.records))
    × (length l.body.items ≤ l.most) × (first_fault record_flaw (take l.i l.records) ≡ None)
