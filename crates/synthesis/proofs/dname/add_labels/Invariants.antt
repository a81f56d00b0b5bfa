use Rattle.std.proofs.Common.{◌≡◌, ◌++◌, take}
use Rattle.hickory_proto_core.specs.Name.{label_bytes}
use Rattle.synthesis.proofs.dname.add_labels.Given as goal

abbrev pub invariant-loop-label : goal.invariant-loop-label
invariant-loop-label l =
    label_bytes l.made.items ≡ label_bytes l.fn.made.items ++ label_bytes (take l.label-index l.labels)
