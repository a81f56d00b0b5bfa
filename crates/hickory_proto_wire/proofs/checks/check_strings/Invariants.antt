use Rattle.std.proofs.Common.{◌≡◌, take}
use Rattle.std.specs.Prelude.{None}
use Rattle.hickory_proto_wire.specs.Refused.{first_fault}
use Rattle.hickory_proto_wire.proofs.Strings.{vector_fault}
use Rattle.hickory_proto_wire.proofs.checks.check_strings.Given as goal

abbrev pub invariant-loop-i : goal.invariant-loop-i
invariant-loop-i l = first_fault vector_fault (take l.i l.strings) ≡ None
