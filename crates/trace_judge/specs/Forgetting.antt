-- For how long a trace is remembered: what was received counts until a day after it ran out.
use Rattle.std.specs.Prelude.{◌+◌, ◌-◌, ℕ, List, [], ◌∷◌, max}
use Rattle.trace_judge.specs.Receptions.{grace}
use Rattle.trace_judge.specs.Trace.{milliseconds_of}
use Rattle.trace_judge.specs.declared.event.Event.{Event}

-- the latest moment of these lines, in milliseconds
abbrev pub latest : List Event → ℕ
latest [] = 0
latest (event ∷ past) = max (latest past) (milliseconds_of event.moment)

-- What ran out before this moment is forgotten: a day, and what is allowed for rounding, is counted back from the
-- latest moment.
abbrev pub oldest : ℕ → ℕ → ℕ
oldest slack at = at - (grace slack + 86400000)
