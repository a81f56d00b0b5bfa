use Rattle.std.proofs.Common.{rules, tests, ◌∙◌, ◌==◌, vec_len}
use Rattle.std.proofs.lemmas.Iterator.Search.{any_from_yields_List}
use Rattle.std.proofs.lemmas.Iterator.{YieldsList-from_slice}
use Rattle.hickory_proto_names.specs.Name.{is_empty_label}
use Rattle.hickory_proto_names.proofs.Labels.{list_any-map, length-items}
use Rattle.hickory_proto_names.proofs.name.has_empty_label.Goals as goal

pub returns : goal.returns
returns c =
    let found = any_from_yields_List (λ v. vec_len v == 0) _ _ c.any.result c.any.ensures.ran (YieldsList-from_slice c.args.labels.now cc) (λ x b q k. search (rules, tests)) in
    found ∙ list_any-map is_empty_label (λ v. vec_len v == 0) (λ v. v.items) (λ v. rw length-items) c.args.labels.now
