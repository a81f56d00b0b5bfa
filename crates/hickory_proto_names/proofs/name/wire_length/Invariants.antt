use Rattle.std.proofs.Common.{◌≡◌, ◌+◌, ◌≤◌, length, take, sum_by, true}
use Rattle.hickory_proto_names.specs.Name.{label_bytes, are_bytes}
use Rattle.hickory_proto_names.proofs.name.wire_length.Given as goal

abbrev pub invariant-loop-label : goal.invariant-loop-label
invariant-loop-label l =
    (l.length ≡ sum_by (λ v. length v.items + 1) (take l.label-index l.labels) + 1) × (l.length ≤ 255) × (are_bytes (label_bytes (take l.label-index l.labels)) ≡ true)
