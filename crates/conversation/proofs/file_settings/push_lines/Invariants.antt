use Rattle.std.proofs.Common.{◌≡◌, ◌++◌, map, string_bytes, take}
use Rattle.conversation.specs.FileSettings.{lines_text}
use Rattle.conversation.proofs.file_settings.push_lines.Given as goal

abbrev pub invariant-loop-line : goal.invariant-loop-line
invariant-loop-line l = string_bytes l.text ≡ string_bytes l.initial.text ++ lines_text (map string_bytes (take l.line-index l.lines))
