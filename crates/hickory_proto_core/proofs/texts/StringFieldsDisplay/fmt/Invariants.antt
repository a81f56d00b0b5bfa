use Rattle.std.proofs.Common.{take}
use Rattle.std.specs.Fmt.{HasWritten, IsPlainFormatter}
use Rattle.hickory_proto_names.specs.Name.{label_bytes}
use Rattle.hickory_proto_core.specs.Texts.{string_fields}
use Rattle.hickory_proto_core.proofs.texts.StringFieldsDisplay.fmt.Given as goal

abbrev pub invariant-loop-string : goal.invariant-loop-string
invariant-loop-string g l =
    IsPlainFormatter l.initial.f → HasWritten g.W.Write.write_str_gives l.initial.f (string_fields (label_bytes (take l.string-index l.string-items))) l.f
