use Rattle.std.proofs.Common.{◌-◌, arith}
use Rattle.std.proofs.lemmas.Result.{err_from_is_err_and}
use Rattle.hickory_proto_wire.proofs.Measures.{piece_unmeasured, label_unmeasured, rest_unmeasured, pointer_unmeasured}
use Rattle.hickory_proto_wire.proofs.name_measure.+measure_from.Goals as goal

pub returns-in_err-piece-clause-exact : goal.returns-in_err-piece-clause-exact
returns-in_err-piece-clause-exact t c =
    let p = err_from_is_err_and c.from_residual.result c.from_residual.ensures.1 in
    rw (p.1, p.2)
    (piece_unmeasured c.in_err-piece.field-0.0 c.args.steps (c.args.steps - 1) c.args.bytes.now c.args.walk (omega arith)
    c.in_err-piece.ensures)

pub returns-in_err-after-in-Label-clause-exact : goal.returns-in_err-after-in-Label-clause-exact
returns-in_err-after-in-Label-clause-exact t c =
    let p = err_from_is_err_and c.from_residual-in_err-after-in-Label.result c.from_residual-in_err-after-in-Label.ensures.1 in
    rw (p.1, p.2)
    (label_unmeasured c.in_err-after-in-Label.field-0.0 c.args.steps (c.args.steps - 1) c.args.bytes.now c.args.walk
    c.in_ok-piece.piece c.in-Label.len c.in_ok-piece.after (omega arith) c.in_ok-piece.ensures c.in-Label.is (omega arith)
    c.in_err-after-in-Label.ensures)

pub returns-in_err-labels-in-Label-clause-exact : goal.returns-in_err-labels-in-Label-clause-exact
returns-in_err-labels-in-Label-clause-exact t c =
    let p = err_from_is_err_and c.from_residual-in_err-labels-in-Label.result c.from_residual-in_err-labels-in-Label.ensures.1 in
    rw (p.1, p.2)
    (rest_unmeasured c.in_err-labels-in-Label.field-0.0 c.args.steps (c.args.steps - 1) c.args.bytes.now c.args.walk
    c.in_ok-piece.piece c.in-Label.len c.in_ok-piece.after c.in_ok-after-in-Label.field-0-0.now
    c.in_ok-after-in-Label.after (omega arith) c.in_ok-piece.ensures c.in-Label.is (omega arith)
    c.in_ok-after-in-Label.ensures c.in_err-labels-in-Label.ensures.exact)

pub returns-in_err-labels-in-Pointer-clause-exact : goal.returns-in_err-labels-in-Pointer-clause-exact
returns-in_err-labels-in-Pointer-clause-exact t c =
    let p = err_from_is_err_and c.from_residual-in_err-labels-in-Pointer.result c.from_residual-in_err-labels-in-Pointer.ensures.1 in
    rw (p.1, p.2)
    (pointer_unmeasured c.in_err-labels-in-Pointer.field-0.0 c.args.steps (c.args.steps - 1) c.args.bytes.now
    c.args.walk c.in_ok-piece.piece c.in-Pointer.target c.in_ok-piece.after (omega arith) c.in_ok-piece.ensures
    c.in-Pointer.is c.if-walk-eq0.false c.if-walk-target.false c.in_err-labels-in-Pointer.ensures.exact)
