use Rattle.std.proofs.Common.{◌∙◌}
use Rattle.hickory_proto_names.proofs.Labels.{label_bytes-clones}
use Rattle.hickory_proto_names.proofs.canonical.SharedLabels.to_labels.Goals as goal

pub returns : goal.returns
returns c = label_bytes-clones _ _ c.in_ok-clone.ensures.cases.0 ∙ c.self.view_is
