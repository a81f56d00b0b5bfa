use Rattle.std.proofs.Common.{◌∙◌, Some, ap, sym}
use Rattle.hickory_proto_core.specs.Name.{label_bytes}
use Rattle.synthesis.specs.WireNames.{named_unless}
use Rattle.synthesis.proofs.wire_name.named.Goals as goal

pub returns-in-Ok : goal.returns-in-Ok
returns-in-Ok c =
    (λ k. Some (record { name = c.in-Ok.ensures.ok k; rest = c.in_ok-rest.ensures k }))
    ∙ ap (λ f. named_unless f (label_bytes c.args.labels.items) c.args.rest.now) (sym c.in-Ok.ensures.valid)

pub returns-in-Err : goal.returns-in-Err
returns-in-Err c = ap (λ f. named_unless f (label_bytes c.args.labels.items) c.args.rest.now) (sym c.in-Err.ensures.err)
