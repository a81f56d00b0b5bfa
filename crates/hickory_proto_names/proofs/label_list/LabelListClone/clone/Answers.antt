use Rattle.std.proofs.Common.{◌∙◌, ap, sym}
use Rattle.std.proofs.lemmas.Result.{cases_from_if_ok}
use Rattle.hickory_proto_names.specs.LabelList.{kept_labels}
use Rattle.hickory_proto_names.specs.Name.{label_fault}
use Rattle.hickory_proto_names.proofs.Labels.{label_bytes-clones}
use Rattle.hickory_proto_names.proofs.label_list.LabelListClone.clone.Goals as goal

pub returns-in-Own : goal.returns-in-Own
returns-in-Own c =
    let same = label_bytes-clones _ _ c.in_ok-clone-in-Own.ensures.cases.0 in
    let kept = sym (ap kept_labels c.in-Own.is) ∙ c.self.view_is in
    record { cases = cases_from_if_ok c.shared.result _ _ (λ ls e. e ∙ same ∙ kept) c.shared.ensures }

pub shared-requires : goal.shared-requires
shared-requires c =
    let same = label_bytes-clones _ _ c.in_ok-clone-in-Own.ensures.cases.0 in
    let kept = sym (ap kept_labels c.in-Own.is) in
    ap label_fault (same ∙ kept) ∙ c.self.invariant
