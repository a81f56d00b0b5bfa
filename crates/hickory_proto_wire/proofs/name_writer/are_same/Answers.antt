use Rattle.std.proofs.Common.{ap₂, ◌∙◌, nat_eq, arith}
use Rattle.std.specs.Cmp.Lexicographic.{pointwise}
use Rattle.hickory_proto_wire.proofs.Same.{labels_differ, labels_same}
use Rattle.hickory_proto_wire.proofs.name_writer.are_same.Goals as goal

pub returns-then-not-is_same : goal.returns-then-not-is_same
returns-then-not-is_same c =
    labels_differ c.args.a.now c.args.b.now c.loop-i.i _ _ c.loop-i.invariant (omega arith) c.index-a-i.is c.index-b-i.is
    (c.if-not-is_same.ensures ∙ ap₂ (λ u v. pointwise nat_eq u v) c.deref.ensures.value c.deref-in-loop-i.ensures.value)

pub returns : goal.returns
returns c = labels_same c.args.a.now c.args.b.now c.loop-i.i c.loop-i.invariant c.loop-i-test.false
