use Rattle.std.proofs.Common.{ap, ap₂, ◌∙◌, sym, drop, reverse, nat_cmp, arith, ◌+◌}
use Rattle.std.specs.Cmp.Lexicographic.{slice_cmp}
use Rattle.std.specs.Ordering.{ordering_then}
use Rattle.hickory_proto_names.specs.Name.{lower_label}
use Rattle.hickory_proto_names.proofs.Labels.{label_order, labels_cmp-bytes, labels_cmp_more, labels_cmp_end, then_other}
use Rattle.hickory_proto_names.proofs.name.labels_cmp.Goals as goal

pub returns-in_default : goal.returns-in_default
returns-in_default c =
    let more = labels_cmp_more c.args.a.now c.args.b.now c.loop-i.i _ _ c.loop-i.invariant (omega arith) (omega arith) c.index-a-a.is c.index-b-b.is in
    let rest = slice_cmp label_order (drop (c.loop-i.i + 1) (reverse c.args.a.now)) (drop (c.loop-i.i + 1) (reverse c.args.b.now)) in
    let here = c.label_cmp.ensures ∙ ap₂ (λ u v. slice_cmp nat_cmp (lower_label u) (lower_label v)) c.deref.ensures.value c.deref-in-loop-i.ensures.value in
    then_other c.label_cmp.result rest c.in_default.not-Equal ∙ ap (λ o. ordering_then o rest) here ∙ sym more

pub loop-i-preserved : goal.loop-i-preserved
loop-i-preserved c =
    let more = labels_cmp_more c.args.a.now c.args.b.now c.loop-i.i _ _ c.loop-i.invariant (omega arith) (omega arith) c.index-a-a.is c.index-b-b.is in
    let rest = slice_cmp label_order (drop (c.loop-i.i + 1) (reverse c.args.a.now)) (drop (c.loop-i.i + 1) (reverse c.args.b.now)) in
    let here = c.in-Equal.ensures ∙ ap₂ (λ u v. slice_cmp nat_cmp (lower_label u) (lower_label v)) c.deref.ensures.value c.deref-in-loop-i.ensures.value in
    ap (λ o. ordering_then o rest) here ∙ sym more ∙ labels_cmp-bytes c.args.a.now c.args.b.now

pub returns : goal.returns
returns c = c.cmp.ensures ∙ labels_cmp_end c.args.a.now c.args.b.now c.loop-i.i c.loop-i.invariant (omega arith)
