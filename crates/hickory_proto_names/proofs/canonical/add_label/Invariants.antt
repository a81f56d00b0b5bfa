use Rattle.std.proofs.Common.{◌≡◌, ◌+◌, ◌++◌, length, take}
use Rattle.hickory_proto_names.specs.Name.{lower_label}
use Rattle.hickory_proto_names.proofs.canonical.add_label.Given as goal

abbrev pub invariant-loop-byte : goal.invariant-loop-byte
invariant-loop-byte l =
    (l.form.items ≡ l.initial.form.items ++ lower_label (take l.byte-index l.label)) × (length l.form.items ≡ length l.initial.form.items + l.byte-index)
