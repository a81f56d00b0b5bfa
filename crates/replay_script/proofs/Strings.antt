-- Strings of which some are read.
use Rattle.std.proofs.Common.{ℕ, List, ◌++◌, Result, Ok, Err}
use Rattle.replay_script.specs.Faults.{LineFaultValue}

-- what was read, and what the others say
abbrev pub joined : List (List ℕ) → Result (List (List ℕ)) LineFaultValue → Result (List (List ℕ)) LineFaultValue
joined read (Ok more) = Ok (read ++ more)
joined read (Err fault) = Err fault
