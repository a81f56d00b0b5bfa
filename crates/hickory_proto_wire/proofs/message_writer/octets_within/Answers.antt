use Rattle.std.proofs.Common.{ℕ, List, ◌++◌, ◌-◌, length, ap, sym, subst, ◌∙◌, arith}
use Rattle.hickory_proto_codes.specs.Codes.{response_code}
use Rattle.hickory_proto_core.specs.declared.query.Query.{Query}
use Rattle.hickory_proto_wire.specs.Written.{Body, records_of, header_octets, opt_octets}
use Rattle.hickory_proto_wire.specs.Refused.{first_fault}
use Rattle.hickory_proto_wire.specs.Made.{query_flaw}
use Rattle.hickory_proto_wire.specs.ToWire.{KeepsMost}
use Rattle.hickory_proto_wire.proofs.Keeps.{data_right, start_is, is_written, limit_small, limit_fits, only_octets}
use Rattle.hickory_proto_wire.proofs.message_writer.octets_within.Goals as goal

pub add_sections-requires-clause-answers : goal.add_sections-requires-clause-answers
add_sections-requires-clause-answers c = (data_right c.args.source.now c.in_ok-check_message.ensures).0

pub add_sections-requires-clause-authorities : goal.add_sections-requires-clause-authorities
add_sections-requires-clause-authorities c = (data_right c.args.source.now c.in_ok-check_message.ensures).1

pub add_sections-requires-clause-additionals : goal.add_sections-requires-clause-additionals
add_sections-requires-clause-additionals c = (data_right c.args.source.now c.in_ok-check_message.ensures).2

pub returns-then-limit-needed-clause-refused : goal.returns-then-limit-needed-clause-refused
returns-then-limit-needed-clause-refused c = λ other.
    let m = c.args.source.now in
    let start =
    start_is m c.queries_of-queries.result.now c.in_ok-body.body.items c.in_ok-places.places.items _ c.in_ok-body.ensures.items
    c.in_ok-places.ensures.items c.queries_of-queries.ensures c.in_ok-add_queries.ensures.added in
    limit_small m c.args.limit c.room_around-around.result c.add_queries.new.body.items c.room_around-around.ensures.octets
    (ap (λ (b : Body). b.octets) start) (omega (arith, c.if-limit-needed.true, ap length c.as_slice.ensures.value))
    c.in_ok-check_message.ensures

pub returns-clause-refused : goal.returns-clause-refused
returns-clause-refused c =
    let m = c.args.source.now in
    let start =
    start_is m c.queries_of-queries.result.now c.in_ok-body.body.items c.in_ok-places.places.items _ c.in_ok-body.ensures.items
    c.in_ok-places.ensures.items c.queries_of-queries.ensures c.in_ok-add_queries.ensures.added in
    limit_fits m c.args.limit c.room_around-around.result c.add_queries.new.body.items c.room_around-around.ensures.octets
    (ap (λ (b : Body). b.octets) start) (omega (arith, c.if-limit-needed.false, ap length c.as_slice.ensures.value))
    c.in_ok-check_message.ensures

pub returns-clause-written : goal.returns-clause-written
returns-clause-written c =
    let m = c.args.source.now in
    let opt = opt_octets m.edns (response_code m.message.metadata.response_code) in
    let start =
    start_is m c.queries_of-queries.result.now c.in_ok-body.body.items c.in_ok-places.places.items _ c.in_ok-body.ensures.items
    c.in_ok-places.ensures.items c.queries_of-queries.ensures c.in_ok-add_queries.ensures.added in
    is_written m c.args.limit c.room_around-around.result c.in_ok-kept.kept c.add_sections.new.body.items
    c.in_ok-octets.octets.items c.room_around-around.ensures.octets (omega (arith, c.if-limit-needed.false))
    (subst (λ (b : Body). KeepsMost b (records_of m) (c.args.limit - c.room_around-around.result) c.in_ok-kept.kept c.add_sections.new.body.items)
    start c.in_ok-kept.ensures.kept)
    (c.in_ok-octets.ensures.octets
    ∙ ap (λ (b : List ℕ). header_octets m c.in_ok-kept.kept ++ (b ++ opt)) c.as_slice-whole.ensures.value)
    c.in_ok-check_message.ensures
    (ap (λ (qs : List Query). first_fault query_flaw qs) (sym c.queries_of-queries.ensures) ∙ c.in_ok-add_queries.ensures.valid)
    c.in_ok-kept.ensures.valid c.in_ok-octets.ensures.range

pub returns-clause-unique : goal.returns-clause-unique
returns-clause-unique c = λ other w.
    only_octets c.args.source.now c.args.limit other c.in_ok-octets.octets.items w (returns-clause-written c)
