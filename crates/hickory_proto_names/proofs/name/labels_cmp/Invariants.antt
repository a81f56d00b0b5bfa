use Rattle.std.proofs.Common.{◌≡◌, drop, reverse}
use Rattle.std.specs.Cmp.Lexicographic.{slice_cmp}
use Rattle.hickory_proto_names.proofs.Labels.{label_order}
use Rattle.hickory_proto_names.proofs.name.labels_cmp.Given as goal

abbrev pub invariant-loop-i : goal.invariant-loop-i
invariant-loop-i l =
    slice_cmp label_order (drop l.i (reverse l.a)) (drop l.i (reverse l.b)) ≡ slice_cmp label_order (reverse l.a) (reverse l.b)
