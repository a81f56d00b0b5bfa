-- What is wrong with a line, and which field it is about.
use Rattle.std.specs.Prelude.{ℕ, List, Option, None, Some}
use Rattle.hickory_proto_core.specs.names.name_error.NameError.{NameError}
use Rattle.hickory_proto_core.specs.names.name_error.NameError.TheVariants as name_error
use Rattle.replay_script.specs.declared.fault.ScriptFault.{ScriptFault}
use Rattle.replay_script.specs.declared.fault.ScriptFault.TheVariants.{BadName, OutOfMemory}

-- why a line is refused, and the field that it is refused for, where it is one
pub record LineFaultValue : Type 0 where
  pub fault : ScriptFault
  pub field : Option (List ℕ)

-- this field is wrong
abbrev pub wrong_field : ScriptFault → List ℕ → LineFaultValue
wrong_field fault text = record { fault = fault; field = Some text }

-- the line is wrong, and no field of it
abbrev pub wrong_line : ScriptFault → LineFaultValue
wrong_line fault = record { fault = fault; field = None }

abbrev pub out_of_memory : LineFaultValue
out_of_memory = wrong_line OutOfMemory

-- the field is no name, or there is no memory for it
abbrev pub name_fault : List ℕ → NameError → LineFaultValue
name_fault text name_error.EmptyLabel = wrong_field BadName text
name_fault text name_error.LabelTooLong = wrong_field BadName text
name_fault text name_error.NameTooLong = wrong_field BadName text
name_fault text name_error.BadCharacter = wrong_field BadName text
name_fault text name_error.BadEscape = wrong_field BadName text
name_fault text name_error.NotArpa = wrong_field BadName text
name_fault text name_error.OutOfMemory = out_of_memory
