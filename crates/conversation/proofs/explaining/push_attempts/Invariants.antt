use Rattle.std.proofs.Common.{◌≡◌, ◌++◌, take, string_bytes}
use Rattle.conversation.specs.Explaining.{attempts_text}
use Rattle.conversation.proofs.explaining.push_attempts.Given as goal

abbrev pub invariant-loop-it : goal.invariant-loop-it
invariant-loop-it l = string_bytes l.text ≡ string_bytes l.initial.text ++ attempts_text l.mark (take l.it-index l.attempted)
