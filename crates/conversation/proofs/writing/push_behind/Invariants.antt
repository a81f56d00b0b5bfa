use Rattle.std.proofs.Common.{◌≡◌, ◌++◌, take, string_bytes}
use Rattle.replay_script.specs.Words.{texts}
use Rattle.conversation.specs.Texts.{fields_behind}
use Rattle.conversation.proofs.writing.push_behind.Given as goal

abbrev pub invariant-loop-field : goal.invariant-loop-field
invariant-loop-field l = string_bytes l.text ≡ string_bytes l.initial.text ++ fields_behind (texts (take l.field-index l.fields))
