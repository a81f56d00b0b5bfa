use Rattle.std.proofs.Common.{◌∙◌, ap, sym}
use Rattle.hickory_proto_core.specs.Name.{label_bytes, label_fault, name_eq}
use Rattle.synthesis.specs.Dname.{is_unless, substituted}
use Rattle.synthesis.proofs.dname.is_made.Goals as goal

pub returns-in-Ok : goal.returns-in-Ok
returns-in-Ok c =
    let ls = substituted c.args.name.now c.args.count c.args.by.now in
    c.eq.ensures ∙ ap (name_eq c.args.target.now) c.in-Ok.ensures.ok
    ∙ ap (λ f. is_unless f c.args.target.now (label_bytes c.in_ok-substituted.field-0.items)) (sym c.in-Ok.ensures.valid)
    ∙ ap (λ xs. is_unless (label_fault xs) c.args.target.now xs) c.in_ok-substituted.ensures

pub returns-in-Err : goal.returns-in-Err
returns-in-Err c =
    ap (λ f. is_unless f c.args.target.now (label_bytes c.in_ok-substituted.field-0.items)) (sym c.in-Err.ensures.err)
    ∙ ap (λ xs. is_unless (label_fault xs) c.args.target.now xs) c.in_ok-substituted.ensures
