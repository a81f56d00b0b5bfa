use Rattle.std.proofs.Common.{◌∙◌, sym}
use Rattle.hickory_proto_names.specs.Name.{label_bytes}
use Rattle.hickory_proto_wire.specs.Place.{PlaceValue}
use Rattle.hickory_proto_wire.proofs.Same.{place_next, place_here, place_none}
use Rattle.hickory_proto_wire.proofs.name_writer.place_of.Goals as goal

pub returns-then-are_same : goal.returns-then-are_same
returns-then-are_same c =
    let p : PlaceValue = record { labels = label_bytes c.place.inside.labels.now; at = c.place.inside.at } in
    place_here c.args.places.now c.loop-i.i p c.index-places-i.result (label_bytes c.args.labels.now) c.loop-i-test.true
    (c.place.view_is ∙ c.index-places-i.is) (sym c.are_same.ensures ∙ c.if-are_same.true) ∙ c.loop-i.invariant

pub loop-i-preserved : goal.loop-i-preserved
loop-i-preserved c =
    let p : PlaceValue = record { labels = label_bytes c.place.inside.labels.now; at = c.place.inside.at } in
    place_next c.args.places.now c.loop-i.i p c.index-places-i.result (label_bytes c.args.labels.now) c.loop-i-test.true
    (c.place.view_is ∙ c.index-places-i.is) (sym c.are_same.ensures ∙ c.if-are_same.false) ∙ c.loop-i.invariant

pub returns : goal.returns
returns c = place_none c.args.places.now c.loop-i.i (label_bytes c.args.labels.now) c.loop-i-test.false ∙ c.loop-i.invariant
