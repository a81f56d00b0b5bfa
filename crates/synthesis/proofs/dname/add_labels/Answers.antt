use Rattle.std.proofs.Common.{◌∙◌, ◌++◌, ◌∷◌, [], ap}
use Rattle.hickory_proto_core.specs.Name.{label_bytes}
use Rattle.synthesis.proofs.Steps.{one_more, pushed}
use Rattle.synthesis.proofs.dname.add_labels.Goals as goal

pub loop-label-preserved : goal.loop-label-preserved
loop-label-preserved c =
    let label = c.label-item.result in
    ap label_bytes c.in_ok-push.ensures.items
    ∙ pushed c.loop-label.made.items c.in_ok-to_vec.field-0 label.items (c.in_ok-to_vec.ensures ∙ c.deref.ensures.value)
    ∙ ap (λ ls. ls ++ label.items ∷ []) c.loop-label.invariant
    ∙ one_more (label_bytes c.args.made.now.items) c.args.labels.now c.loop-label.label-index label c.loop-label-test.true c.label-item.is
