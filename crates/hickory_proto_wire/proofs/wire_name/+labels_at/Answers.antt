use Rattle.std.proofs.Common.{◌≡◌, ◌++◌, ◌∷◌, [], ◌-◌, ap, ◌∙◌, arith}
use Rattle.std.proofs.lemmas.Result.{err_from_is_err_and}
use Rattle.std.proofs.lemmas.List.{map_push}
use Rattle.hickory_proto_names.specs.Name.{label_bytes}
use Rattle.hickory_proto_wire.proofs.Walks.{piece_fails, label_step, label_fails, pointer_fails}
use Rattle.hickory_proto_wire.proofs.wire_name.+labels_at.Goals as goal

pub returns-in_err-piece : goal.returns-in_err-piece
returns-in_err-piece t c =
    let p = err_from_is_err_and c.from_residual.result c.from_residual.ensures.1 in
    rw (p.1, p.2)
    (piece_fails c.in_err-piece.field-0.0 c.args.steps (c.args.steps - 1) c.args.bytes.now c.args.walk
    (label_bytes c.args.labels.now.items) (omega arith) c.in_err-piece.ensures)

pub returns-in_err-label-in-Label : goal.returns-in_err-label-in-Label
returns-in_err-label-in-Label t c =
    let p = err_from_is_err_and c.from_residual-in_err-label-in-Label.result c.from_residual-in_err-label-in-Label.ensures.1 in
    rw (p.1, p.2)
    (label_fails c.in_err-label-in-Label.field-0.0 c.args.steps (c.args.steps - 1) c.args.bytes.now c.args.walk
    c.in_ok-piece.piece c.in-Label.len c.in_ok-piece.after (label_bytes c.args.labels.now.items) (omega arith)
    c.in_ok-piece.ensures c.in-Label.is (omega arith) c.in_err-label-in-Label.ensures)

pub returns-in_err-labels_at-in-Pointer : goal.returns-in_err-labels_at-in-Pointer
returns-in_err-labels_at-in-Pointer t c =
    let p = err_from_is_err_and c.from_residual-in_err-labels_at-in-Pointer.result c.from_residual-in_err-labels_at-in-Pointer.ensures.1 in
    rw (p.1, p.2)
    (pointer_fails c.in_err-labels_at-in-Pointer.field-0.0 c.args.steps (c.args.steps - 1) c.args.bytes.now
    c.args.walk c.in_ok-piece.piece c.in-Pointer.target c.in_ok-piece.after (label_bytes c.args.labels.now.items)
    (omega arith) c.in_ok-piece.ensures c.in-Pointer.is c.if-walk-eq0.false c.if-walk-target.false
    c.in_err-labels_at-in-Pointer.ensures)

pub returns-in_ok-push-in-Label : goal.returns-in_ok-push-in-Label
returns-in_ok-push-in-Label t c =
    let e : label_bytes c.push.new.self.items ≡ label_bytes c.args.labels.now.items ++ c.in_ok-label-in-Label.label.now ∷ [] =
    ap label_bytes c.in_ok-push-in-Label.ensures.items ∙ map_push _ c.args.labels.now.items _
    ∙ ap (λ x. label_bytes c.args.labels.now.items ++ x ∷ []) c.in_ok-from_slice-in-Label.ensures.items in
    rw (
      label_step c.args.steps (c.args.steps - 1) c.args.bytes.now c.args.walk c.in_ok-piece.piece c.in-Label.len
          c.in_ok-piece.after c.in_ok-label-in-Label.label.now c.in_ok-label-in-Label.after
          (label_bytes c.args.labels.now.items) (omega arith) c.in_ok-piece.ensures c.in-Label.is (omega arith)
          c.in_ok-label-in-Label.ensures,
      ← e,
    ) c.labels_at.ensures
