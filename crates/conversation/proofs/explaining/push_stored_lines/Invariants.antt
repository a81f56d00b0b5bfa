use Rattle.std.proofs.Common.{◌≡◌, ◌++◌, take, string_bytes}
use Rattle.conversation.specs.Explaining.{stored_lines}
use Rattle.conversation.proofs.explaining.push_stored_lines.Given as goal

abbrev pub invariant-loop-question : goal.invariant-loop-question
invariant-loop-question l = string_bytes l.text ≡ string_bytes l.initial.text ++ stored_lines l.mark l.cache l.now (take l.question-index l.sent)
