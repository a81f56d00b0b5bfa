use Rattle.std.proofs.Common.{ℕ, List, ap, ◌∙◌, length, length-append, arith}
use Rattle.hickory_proto_names.specs.Name.{label_bytes, label_fault}
use Rattle.hickory_proto_wire.specs.Written.{name_octets}
use Rattle.hickory_proto_wire.proofs.Runs.{are_labels}
use Rattle.hickory_proto_wire.proofs.Places.{name_short}
use Rattle.hickory_proto_wire.proofs.name_writer.put_name.Goals as goal

pub put_labels-requires : goal.put_labels-requires
put_labels-requires c =
    (are_labels (label_bytes c.labels.result.now)
    (ap (λ (ls : List (List ℕ)). label_fault ls) c.labels.ensures.labels ∙ c.labels.ensures.valid)).short

pub returns-clause-small : goal.returns-clause-small
returns-clause-small c =
    let labels = label_bytes c.labels.result.now in
    let fits =
    are_labels labels (ap (λ (ls : List (List ℕ)). label_fault ls) c.labels.ensures.labels ∙ c.labels.ensures.valid) in
    omega (
      arith,
      ap length c.in_ok-whole.ensures.octets,
      length-append c.args.out.now.items (name_octets c.args.places.now labels),
      name_short c.args.places.now labels,
      fits.fits,
    )
