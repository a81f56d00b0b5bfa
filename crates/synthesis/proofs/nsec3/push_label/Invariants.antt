use Rattle.std.proofs.Common.{◌≡◌, ◌++◌, take}
use Rattle.hickory_proto_core.specs.Name.{lower_label}
use Rattle.synthesis.proofs.nsec3.push_label.Given as goal

-- the bytes so far are behind the length
abbrev pub invariant-loop-byte : goal.invariant-loop-byte
invariant-loop-byte l = l.form.items ≡ l.initial.form.items ++ lower_label (take l.byte-index l.label)
