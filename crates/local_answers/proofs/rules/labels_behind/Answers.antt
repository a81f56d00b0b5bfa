use Rattle.std.proofs.Common.{◌≡◌, ℕ, ◌+◌, ◌-◌, length, drop, ap, ◌∙◌, arith}
use Rattle.hickory_proto_core.specs.Name.{label_bytes}
use Rattle.local_answers.specs.Rules.{labels_from}
use Rattle.local_answers.proofs.Labels.{not_zero, passed, reached}
use Rattle.local_answers.proofs.rules.labels_behind.Goals as goal

pub returns-then-left-eq0-clause-labels : goal.returns-then-left-eq0-clause-labels
returns-then-left-eq0-clause-labels c =
    let labels = label_bytes c.args.labels.now in
    reached c.args.place c.loop-i.i c.args.labels.now (omega arith)
    (c.loop-i.invariant ∙ ap (λ (n : ℕ). labels_from n (drop c.loop-i.i labels)) c.if-left-eq0.true)

pub loop-i-preserved : goal.loop-i-preserved
loop-i-preserved c =
    let labels = label_bytes c.args.labels.now in
    let label = c.index-labels-i.result in
    let left : c.loop-i.left - (length label.items + 1) ≡ c.saturating_sub-left.result =
    omega (arith, c.len.ensures, c.saturating_sub-left.ensures) in
    passed c.args.place c.loop-i.left c.loop-i.i c.args.labels.now label (not_zero c.loop-i.left c.if-left-eq0.false)
    c.loop-i-test.true c.index-labels-i.is c.loop-i.invariant
    ∙ ap (λ (n : ℕ). labels_from n (drop (c.loop-i.i + 1) labels)) left
