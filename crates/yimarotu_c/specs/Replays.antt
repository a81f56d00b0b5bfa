-- How a replay ends for a caller.
use Rattle.std.specs.Prelude.{◌≡◌, ◌⊎◌, ℕ, List}
use Rattle.replay.specs.ScriptRun.{IsRefused, IsReplayed}
use Rattle.replay.specs.Statuses.{status_of}
use Rattle.replay.specs.declared.error.ReplayError.{ReplayError}
use Rattle.replay.specs.declared.error.ReplayError.TheVariants.{Script}
use Rattle.yimarotu_c.specs.Rooms.{IsPutEnd}
use Rattle.yimarotu_c.specs.declared.replaying.YimarotuReplayed.{YimarotuReplayed}

-- the line of a fault of the script
abbrev pub line_of : ReplayError → ℕ
line_of (Script fault) = fault.line
line_of other = 0

abbrev pub refused_end : ReplayError → YimarotuReplayed
refused_end error = record { status = status_of error; length = 0; line = line_of error }

-- the text of the replay is put in the room; where there is none the room stays
abbrev pub IsReplayEnd : List ℕ → List ℕ → List ℕ → List ℕ → YimarotuReplayed → Type 0
IsReplayEnd script hosts before after ended =
    ((text : List ℕ) × IsReplayed script hosts text × IsPutEnd text before after ended)
    ⊎ ((error : ReplayError) × IsRefused script hosts error × (after ≡ before) × (ended ≡ refused_end error))
