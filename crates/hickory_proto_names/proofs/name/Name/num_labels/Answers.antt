use Rattle.std.proofs.Common.{◌≤◌, ◌∙◌, ap, length, rules, arith}
use Rattle.std.proofs.lemmas.List.{length-map}
use Rattle.hickory_proto_names.specs.Name.{label_bytes, label_fault}
use Rattle.hickory_proto_names.proofs.Labels.{label_count}
use Rattle.hickory_proto_names.proofs.name.Name.num_labels.Goals as goal

pub overflow_cast-result : goal.overflow_cast-result
overflow_cast-result c =
    let vs = c.labels-labels.result.now in
    let valid = ap label_fault c.labels-labels.ensures.labels ∙ c.labels-labels.ensures.valid in
    let few : length vs ≤ 127 = omega (arith, label_count (label_bytes vs) valid, length-map vs (λ v. v.items)) in
    search rules

pub overflow_cast-result-in_default : goal.overflow_cast-result-in_default
overflow_cast-result-in_default c =
    let vs = c.labels-labels.result.now in
    let valid = ap label_fault c.labels-labels.ensures.labels ∙ c.labels-labels.ensures.valid in
    let few : length vs ≤ 127 = omega (arith, label_count (label_bytes vs) valid, length-map vs (λ v. v.items)) in
    search rules
