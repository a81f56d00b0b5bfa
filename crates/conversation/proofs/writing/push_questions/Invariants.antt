use Rattle.std.proofs.Common.{◌≡◌, ◌++◌, take, string_bytes}
use Rattle.replay_script.specs.Output.{sent_text}
use Rattle.conversation.proofs.writing.push_questions.Given as goal

abbrev pub invariant-loop-question : goal.invariant-loop-question
invariant-loop-question l = string_bytes l.text ≡ string_bytes l.initial.text ++ sent_text (take l.question-index l.questions)
