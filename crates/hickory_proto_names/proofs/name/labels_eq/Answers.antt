use Rattle.std.proofs.Common.{ap₂, ◌∙◌, nat_eq, arith}
use Rattle.std.specs.Cmp.Lexicographic.{pointwise}
use Rattle.hickory_proto_names.specs.Name.{lower_label}
use Rattle.hickory_proto_names.proofs.Labels.{labels_differ, labels_same}
use Rattle.hickory_proto_names.proofs.name.labels_eq.Goals as goal

pub returns-then-not-label_eq : goal.returns-then-not-label_eq
returns-then-not-label_eq c =
    labels_differ c.args.a.now c.args.b.now c.loop-i.i _ _ c.loop-i.invariant (omega arith) c.index-a-i.is c.index-b-i.is
    (c.if-not-label_eq.ensures ∙ ap₂ (λ u v. pointwise nat_eq (lower_label u) (lower_label v)) c.deref.ensures.value c.deref-in-loop-i.ensures.value)

pub returns : goal.returns
returns c = labels_same c.args.a.now c.args.b.now c.loop-i.i c.loop-i.invariant c.loop-i-test.false
