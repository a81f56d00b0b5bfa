use Rattle.std.proofs.Common.{◌≡◌, drop}
use Rattle.hickory_proto_core.specs.Name.{label_bytes}
use Rattle.local_answers.specs.Rules.{labels_from}
use Rattle.local_answers.proofs.rules.labels_behind.Given as goal

abbrev pub invariant-loop-i : goal.invariant-loop-i
invariant-loop-i l =
    labels_from l.place (label_bytes l.labels) ≡ labels_from l.left (drop l.i (label_bytes l.labels))
