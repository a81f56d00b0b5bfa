use Rattle.std.proofs.Common.{◌≡◌, ◌++◌, flat_map, map, string_bytes, take}
use Rattle.yimarotu_session.specs.FileSettings.{line_behind}
use Rattle.yimarotu_session.proofs.file_settings.push_lines.Given as goal

abbrev pub invariant-loop-line : goal.invariant-loop-line
invariant-loop-line l = l.text.items ≡ l.initial.text.items ++ flat_map line_behind (map string_bytes (take l.line-index l.lines))
