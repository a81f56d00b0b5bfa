use Rattle.std.proofs.Common.{◌∙◌, ap, sym}
use Rattle.std.proofs.lemmas.List.Elements.{same_from_all_zip}
use Rattle.hickory_proto_core.specs.Records.{data_of, txt_data, unknown_data}
use Rattle.hickory_proto_names.proofs.Labels.{label_bytes-clones}
use Rattle.hickory_proto_core.proofs.record_data.clone_other.Goals as goal

pub returns-in_ok-clone-in-TXT : goal.returns-in_ok-clone-in-TXT
returns-in_ok-clone-in-TXT c =
    ap txt_data (label_bytes-clones _ _ c.in_ok-clone-in-TXT.ensures.cases.0) ∙ ap data_of (sym c.in-TXT.is)

pub returns-in_ok-clone-in-Unknown : goal.returns-in_ok-clone-in-Unknown
returns-in_ok-clone-in-Unknown c =
    ap (unknown_data c.in-Unknown.code) (same_from_all_zip _ _ _ c.in_ok-clone-in-Unknown.ensures.cases.0 (λ x y e. e)) ∙ ap data_of (sym c.in-Unknown.is)
