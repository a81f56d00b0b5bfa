-- How a program ends.
use Rattle.std.specs.Prelude.{ℕ}
use Rattle.replay.specs.declared.error.ReplayError.{ReplayError}
use Rattle.replay.specs.declared.error.ReplayError.TheVariants.{Script, Hosts, Memory, Write}

-- the exit status: a script with a fault, hosts that cannot be read, out of memory, or a writer that failed
abbrev pub status_of : ReplayError → ℕ
status_of (Script error) = 1
status_of (Hosts error) = 4
status_of Memory = 3
status_of Write = 4
