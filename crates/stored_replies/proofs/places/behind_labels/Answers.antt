use Rattle.std.proofs.Common.{◌+◌, ℕ, List, length, drop, ap, sym, ◌∙◌, arith}
use Rattle.hickory_proto_core.specs.Name.{label_bytes}
use Rattle.stored_replies.specs.Walk.{behind_labels}
use Rattle.stored_replies.proofs.Walked.{step_pointed, step_label}
use Rattle.stored_replies.proofs.places.behind_labels.Goals as goal

pub returns-then-octet_at-ge192 : goal.returns-then-octet_at-ge192
returns-then-octet_at-ge192 c =
    c.behind.ensures
    ∙ sym (step_pointed c.args.labels.now c.loop-label.label-index c.label-item.result c.loop-label.rest.now c.loop-label-test.true c.label-item.is
    (omega (arith, c.if-octet_at-ge192.true, c.octet_at.ensures)))
    ∙ c.loop-label.invariant

pub loop-label-preserved : goal.loop-label-preserved
loop-label-preserved c =
    let rest = c.loop-label.rest.now in
    let more = drop (c.loop-label.label-index + 1) (label_bytes c.args.labels.now) in
    ap (behind_labels more) (c.behind-rest.ensures ∙ ap (λ (xs : List ℕ). drop (length xs + 1) rest) c.as_slice.ensures.value)
    ∙ sym (step_label c.args.labels.now c.loop-label.label-index c.label-item.result rest c.loop-label-test.true c.label-item.is
    (omega (arith, c.if-octet_at-ge192.false, c.octet_at.ensures)))
    ∙ c.loop-label.invariant
