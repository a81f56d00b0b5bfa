use Rattle.std.proofs.Common.{◌≡◌, ◌++◌, take}
use Rattle.std.specs.List.{flat_map}
use Rattle.hickory_proto_core.specs.Name.{label_bytes}
use Rattle.trace_judge.proofs.record_key.add_strings.Given as goal

-- the strings so far were added
abbrev pub invariant-loop-string : goal.invariant-loop-string
invariant-loop-string l =
    l.octets.items ≡ l.initial.octets.items ++ flat_map (λ s. s) (label_bytes (take l.string-index l.strings))
