use Rattle.std.proofs.Common.{Result, drop, map, string_bytes}
use Rattle.replay_script.specs.Configuration.{ConfigurationValue}
use Rattle.conversation.specs.FileSettings.{AreSet}
use Rattle.conversation.specs.declared.fault.ConversationFault.{ConversationFault}
use Rattle.conversation.proofs.file_settings.set_lines.Given as goal

-- whatever the lines that are left make of what is set now, all lines make of what was set
abbrev pub invariant-loop-line : goal.invariant-loop-line
invariant-loop-line l = (result : Result ConfigurationValue ConversationFault)
    → AreSet (map string_bytes (drop l.line-index l.lines)) l.configuration result
    → AreSet (map string_bytes l.lines) l.initial.configuration result
