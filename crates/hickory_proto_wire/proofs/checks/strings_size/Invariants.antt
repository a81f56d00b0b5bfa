use Rattle.std.proofs.Common.{◌≡◌, ◌≤◌, length, take}
use Rattle.hickory_proto_names.specs.Name.{label_bytes}
use Rattle.hickory_proto_wire.specs.Writing.{run_of}
use Rattle.hickory_proto_wire.proofs.checks.strings_size.Given as goal

abbrev pub invariant-loop-i : goal.invariant-loop-i
invariant-loop-i l =
    (l.size ≡ length (run_of (take l.i (label_bytes l.strings)))) × (l.size ≤ 65791)
