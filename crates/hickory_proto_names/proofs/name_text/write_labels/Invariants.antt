use Rattle.std.proofs.Common.{◌+◌, take}
use Rattle.std.specs.Fmt.{HasWritten, IsPlainFormatter}
use Rattle.hickory_proto_names.specs.Name.{label_bytes}
use Rattle.hickory_proto_names.specs.NameText.{labels_text}
use Rattle.hickory_proto_names.proofs.name_text.write_labels.Given as goal

abbrev pub invariant-loop-label : goal.invariant-loop-label
invariant-loop-label g l =
    let text = labels_text (label_bytes (take (l.label-index + 1) l.labels)) in
    IsPlainFormatter l.fn.f → HasWritten g.W.Write.write_str_gives l.fn.f text l.f
