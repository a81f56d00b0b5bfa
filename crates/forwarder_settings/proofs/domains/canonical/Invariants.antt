use Rattle.std.proofs.Common.{◌≡◌, ◌++◌, drop}
use Rattle.hickory_proto_core.specs.Name.{canonical_form, label_bytes}
use Rattle.forwarder_settings.proofs.domains.canonical.Given as goal

-- with what is still to come it is the whole form
abbrev pub invariant-loop-label : goal.invariant-loop-label
invariant-loop-label l =
    l.octets.items ++ canonical_form (label_bytes (drop l.label-index l.labels))
    ≡ canonical_form (label_bytes l.labels)
