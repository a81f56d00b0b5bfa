use Rattle.std.proofs.Common.{◌≡◌, drop}
use Rattle.hickory_proto_core.specs.Name.{label_bytes}
use Rattle.stored_replies.specs.Walk.{behind_labels}
use Rattle.stored_replies.proofs.places.behind_labels.Given as goal

abbrev pub invariant-loop-label : goal.invariant-loop-label
invariant-loop-label l =
    behind_labels (drop l.label-index (label_bytes l.labels)) l.rest ≡ behind_labels (label_bytes l.labels) l.fn.octets
