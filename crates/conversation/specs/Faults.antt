-- The codes of faults, with their words.
use Rattle.std.specs.Prelude.{ℕ, Bool, true, false, List, [], ◌∷◌, codes, Option, None, Some}
use Rattle.hickory_resolver.specs.hosts.hosts_error.HostsError.{HostsError}
use Rattle.hickory_resolver.specs.hosts.hosts_error.HostsError.TheVariants as hosts
use Rattle.replay_script.specs.Faults.{LineFaultValue}
use Rattle.replay_script.specs.declared.fault.ScriptFault.{ScriptFault}
use Rattle.replay_script.specs.declared.fault.ScriptFault.TheVariants as script
use Rattle.conversation.specs.declared.fault.ConversationFault.{ConversationFault}
use Rattle.conversation.specs.declared.fault.ConversationFault.TheVariants as fault

-- those of a line of a script
abbrev pub script_words : ScriptFault → List ℕ
script_words script.BadByte = codes "S1 bad byte"
script_words script.UnknownDirective = codes "S2 unknown directive"
script_words script.FieldCount = codes "S3 wrong number of fields"
script_words script.BadNumber = codes "S4 bad number"
script_words script.BadName = codes "S5 bad name"
script_words script.BadAddress = codes "S6 bad address"
script_words script.UnknownWord = codes "S7 unknown word"
script_words script.NoReply = codes "S8 no open reply"
script_words script.MomentBack = codes "S9 moment goes back"
script_words script.BadHex = codes "S10 bad hex"
script_words script.ReversedBounds = codes "S11 reversed bounds"
script_words script.OutOfMemory = codes "S12 out of memory"

-- those of a line of a conversation
abbrev pub fault_words : ConversationFault → List ℕ
fault_words (fault.Script f) = script_words f
fault_words fault.SettingAfterRequest = codes "C1 setting after a request"
fault_words fault.MarkInUse = codes "C2 mark in use"
fault_words fault.NoSuchRequest = codes "C3 no such request"
fault_words fault.ReplyNotDone = codes "C4 reply not done"
fault_words fault.HostsNotUtf8 = codes "C5 hosts not UTF-8"

-- no memory was left
abbrev pub out_of_memory : ConversationFault
out_of_memory = fault.Script script.OutOfMemory

-- what a file of hosts that cannot be read is told as
abbrev pub hosts_fault : HostsError → ConversationFault
hosts_fault hosts.OutOfMemory = out_of_memory
hosts_fault other = fault.HostsNotUtf8

-- whether no memory was left
abbrev pub is_memory : ConversationFault → Bool
is_memory (fault.Script script.OutOfMemory) = true
is_memory other = false

-- why a line is refused, and the field that it is refused for, where it is one
pub record RefusalValue : Type 0 where
  pub fault : ConversationFault
  pub field : Option (List ℕ)

-- for no single field
abbrev pub of_line : ConversationFault → RefusalValue
of_line f = record { fault = f; field = None }

abbrev pub of_field : ConversationFault → List ℕ → RefusalValue
of_field f text = record { fault = f; field = Some text }

-- no directive stands at the front of these fields
abbrev pub unknown : List (List ℕ) → RefusalValue
unknown [] = of_line (fault.Script script.UnknownDirective)
unknown (text ∷ behind) = of_field (fault.Script script.UnknownDirective) text

-- the fault of a line of a script
abbrev pub refusal_of : LineFaultValue → RefusalValue
refusal_of f = record { fault = fault.Script f.fault; field = f.field }
