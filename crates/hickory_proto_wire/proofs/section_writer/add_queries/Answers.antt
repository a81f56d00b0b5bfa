use Rattle.std.proofs.Common.{ap, sym, ◌∙◌}
use Rattle.hickory_proto_wire.specs.Written.{Body, query_added}
use Rattle.hickory_proto_wire.specs.Made.{query_flaw}
use Rattle.hickory_proto_wire.proofs.Faults.{more_none}
use Rattle.hickory_proto_wire.proofs.Keeps.{fold_more}
use Rattle.hickory_proto_wire.proofs.section_writer.add_queries.Goals as goal

pub loop-i-preserved : goal.loop-i-preserved
loop-i-preserved c =
    let start : Body = record { octets = c.args.body.now.items; places = c.args.places.now.items } in
    let q = c.index-queries-i.result in (
      c.in_ok-add_query.ensures.added ∙ ap (λ (b : Body). query_added b q) c.loop-i.invariant.0
          ∙ sym (fold_more query_added start c.args.queries.now c.loop-i.i q c.loop-i-test.true c.index-queries-i.is),
      more_none query_flaw c.args.queries.now c.loop-i.i q c.loop-i-test.true c.index-queries-i.is c.loop-i.invariant.1
          c.in_ok-add_query.ensures.valid,
    )
