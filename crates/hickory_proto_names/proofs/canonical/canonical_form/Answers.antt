use Rattle.std.proofs.Common.{◌∙◌, ◌∷◌, ◌++◌, ap, refl, arith, length}
use Rattle.hickory_proto_names.specs.Name.{lower_label}
use Rattle.hickory_proto_names.proofs.CanonicalForms.{label_formed, root_formed, room_for_label, room_for_root}
use Rattle.hickory_proto_names.proofs.canonical.canonical_form.Goals as goal

pub loop-label-init : goal.loop-label-init
loop-label-init c = rw (c.new-form.ensures) refl

pub add_label-requires : goal.add_label-requires
add_label-requires c =
    let room = room_for_label c.loop-label.form.items c.args.labels.now c.loop-label.label-index c.label-item.result c.loop-label.invariant c.requires c.loop-label-test.true c.label-item.is in
    rw (c.deref.ensures.value) room

pub loop-label-preserved : goal.loop-label-preserved
loop-label-preserved c =
    let more = c.add_label.ensures ∙ ap (λ l. c.loop-label.form.items ++ length l ∷ lower_label l) c.deref.ensures.value in
    rw (more) (label_formed c.loop-label.form.items c.args.labels.now c.loop-label.label-index c.label-item.result c.loop-label.invariant c.loop-label-test.true c.label-item.is)

pub push-requires : goal.push-requires
push-requires c =
    let room = room_for_root c.loop-label.form.items c.args.labels.now c.loop-label.label-index c.loop-label.invariant c.requires c.loop-label-test.false in
    (omega arith, room)

pub returns : goal.returns
returns c =
    c.push.ensures.items ∙ root_formed c.loop-label.form.items c.args.labels.now c.loop-label.label-index c.loop-label.invariant c.loop-label-test.false
