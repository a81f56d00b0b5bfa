use Rattle.std.proofs.Common.{◌∙◌, ap, sym}
use Rattle.std.proofs.lemmas.Result.{IfOk-weaker}
use Rattle.std.specs.Arc.{arc_value}
use Rattle.hickory_proto_names.specs.LabelList.{kept_labels}
use Rattle.hickory_proto_names.proofs.label_list.LabelList.into_vec.Goals as goal

pub returns-in-Ok : goal.returns-in-Ok
returns-in-Ok c = c.into_labels.ensures ∙ c.in-Ok.ensures.ok ∙ sym (ap kept_labels c.in-Shared.is) ∙ c.self.view_is

pub returns-in-Err : goal.returns-in-Err
returns-in-Err c =
    let same = c.deref.ensures ∙ ap arc_value c.in-Err.ensures.err ∙ sym (ap kept_labels c.in-Shared.is) ∙ c.self.view_is in
    IfOk-weaker c.to_labels.result _ _ (λ v e. e ∙ same) c.to_labels.ensures
