use Rattle.std.proofs.Common.{◌≡◌, ◌++◌, drop}
use Rattle.hickory_proto_core.specs.Name.{canonical_form, label_bytes}
use Rattle.synthesis.proofs.nsec3.push_labels.Given as goal

-- with what is still to come it is the whole form
abbrev pub invariant-loop-label : goal.invariant-loop-label
invariant-loop-label l =
    l.form.items ++ canonical_form (label_bytes (drop l.label-index l.labels))
    ≡ l.initial.form.items ++ canonical_form (label_bytes l.labels)
