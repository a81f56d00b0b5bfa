use Rattle.std.proofs.Common.{◌≡◌, ◌++◌, take, string_bytes}
use Rattle.replay_script.specs.Output.{section_text}
use Rattle.replay_script.proofs.output.push_records.Given as goal

abbrev pub invariant-loop-found : goal.invariant-loop-found
invariant-loop-found l = string_bytes l.text ≡ string_bytes l.initial.text ++ section_text l.section
    (take l.found-index l.records)
