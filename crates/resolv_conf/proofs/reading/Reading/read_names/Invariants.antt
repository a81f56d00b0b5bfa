use Rattle.std.proofs.Common.{◌≡◌}
use Rattle.resolv_conf.specs.Said.{names_said, with_said}
use Rattle.resolv_conf.specs.Text.{words}
use Rattle.resolv_conf.proofs.reading.Reading.read_names.Given as goal

abbrev pub invariant-loop-word : goal.invariant-loop-word
invariant-loop-word l = with_said l.self (names_said l.number (words l.word-iterator.rest.now)) ≡ with_said l.initial.self (names_said l.number (words l.values))
