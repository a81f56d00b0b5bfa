use Rattle.std.proofs.Common.{◌*◌, ◌≤◌, refl, sym, ◌∙◌}
use Rattle.std.proofs.lemmas.Bool.{leb-true}
use Rattle.hickory_proto_wire.specs.LabelsTaken.{most_names, most_labels}
use Rattle.hickory_proto_wire.proofs.FewLabels.{not_too_many}
use Rattle.hickory_proto_wire.proofs.label_count.has_too_many_labels.Goals as goal

pub returns-then-has_few_names-clause-exact : goal.returns-then-has_few_names-clause-exact
returns-then-has_few_names-clause-exact c =
    let few : 127 * most_names c.args.header ≤ most_labels =
    leb-true (127 * most_names c.args.header) most_labels (sym c.has_few_names.ensures ∙ c.if-has_few_names.true) in
    rw (not_too_many c.args.bytes.now c.args.header few) refl
