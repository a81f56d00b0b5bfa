use Rattle.std.proofs.Common.{◌≡◌, take}
use Rattle.std.specs.Prelude.{None}
use Rattle.hickory_proto_wire.specs.Refused.{first_fault, additional_fault}
use Rattle.hickory_proto_wire.proofs.checks.check_additionals.Given as goal

abbrev pub invariant-loop-i : goal.invariant-loop-i
invariant-loop-i l = first_fault additional_fault (take l.i l.records) ≡ None
