use Rattle.std.proofs.Common.{◌≡◌, ◌++◌, take, string_bytes}
use Rattle.std.specs.List.{flat_map}
use Rattle.replay_script.specs.Output.{address_text}
use Rattle.replay_script.proofs.output.push_each_address.Given as goal

abbrev pub invariant-loop-found : goal.invariant-loop-found
invariant-loop-found l = string_bytes l.text ≡ string_bytes l.initial.text ++ flat_map (λ r. address_text r.rdata)
    (take l.found-index l.answers)
