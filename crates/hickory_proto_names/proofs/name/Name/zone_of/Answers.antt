use Rattle.std.proofs.Common.{◌≡◌, ◌∙◌, ap, ap₂, length, take, drop, nat_eq, ◌-◌, arith, length-drop}
use Rattle.std.proofs.lemmas.List.{take_all}
use Rattle.std.specs.List.{ends_with}
use Rattle.std.specs.Cmp.Lexicographic.{pointwise}
use Rattle.hickory_proto_names.specs.Name.{label_bytes, labels_eq, lower_labels}
use Rattle.hickory_proto_names.proofs.Labels.{zone_labels}
use Rattle.hickory_proto_names.proofs.name.Name.zone_of.Goals as goal

pub returns-then-zone-labels : goal.returns-then-zone-labels
returns-then-zone-labels c =
    let zs = c.labels-zone.result.now in
    let ns = c.labels-labels.result.now in
    let k = length ns - length zs in
    let cut : take (length ns - k) (drop k ns) ≡ drop k ns = take_all (length ns - k) (drop k ns) (omega (arith, length-drop k ns)) in
    c.labels_eq.ensures ∙ ap (λ l. labels_eq (label_bytes zs) (label_bytes l)) cut ∙ zone_labels zs ns
    ∙ ap₂ (λ a b. ends_with (pointwise nat_eq) (lower_labels a) (lower_labels b)) c.labels-labels.ensures.labels c.labels-zone.ensures.labels
