use Rattle.std.proofs.Common.{◌≡◌, take}
use Rattle.std.specs.Prelude.{None}
use Rattle.std.specs.List.{fold}
use Rattle.hickory_proto_wire.specs.Written.{Body, query_added}
use Rattle.hickory_proto_wire.specs.Refused.{first_fault}
use Rattle.hickory_proto_wire.specs.Made.{query_flaw}
use Rattle.hickory_proto_wire.proofs.section_writer.add_queries.Given as goal

abbrev pub invariant-loop-i : goal.invariant-loop-i
invariant-loop-i l =
    let now : Body = record { octets = l.body.items; places = l.places.items } in
    (now ≡ fold query_added (record { octets = l.fn.body.items; places = l.fn.places.items }) (take l.i l.queries))
    × (first_fault query_flaw (take l.i l.queries) ≡ None)
