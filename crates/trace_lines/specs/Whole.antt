-- Whole traces: the lines of a text, the events that they are, and what is told of these.
use Rattle.std.specs.Prelude.{◌≡◌, ◌<◌, ℕ, List, [], ◌∷◌, length, Option, None, Some, Ok}
use Rattle.std.specs.Io.BufRead.{drop_through, first_line}
use Rattle.trace_judge.specs.Options.{OptionsValue}
use Rattle.trace_lines.specs.Reading.{IsTaken, ReaderValue, unread}
use Rattle.trace_lines.specs.Reports.{event_text, found_at}
use Rattle.trace_lines.specs.declared.reader.Placed.{Placed}
use Rattle.trace_lines.specs.declared.verdict.Strictness.{Strictness}

-- The first lines of a text, of which the latest comes first, and what stands behind them. A line ends with LF or
-- CR LF, and the last one need not.
abbrev pub IsSplit : List ℕ → List (List ℕ) → List ℕ → Type 0
IsSplit text [] rest = rest ≡ text
IsSplit text (line ∷ lines) rest =
    (before : List ℕ) × IsSplit text lines before
    × (0 < length before) × (line ≡ first_line before) × (rest ≡ drop_through 10 before)

-- an event that is whole comes before those above it
abbrev pub with_whole : Option Placed → List Placed → List Placed
with_whole None past = past
with_whole (Some placed) past = placed ∷ past

-- reading these lines, of which the latest comes first, makes these events whole, the latest first, and leads to there
abbrev pub IsReadTo : List (List ℕ) → List Placed → ReaderValue → Type 0
IsReadTo [] past reader = (past ≡ []) × (reader ≡ unread)
IsReadTo (line ∷ lines) past reader =
    (before : List Placed) × (was : ReaderValue) × (whole : Option Placed) × IsReadTo lines before was
    × IsTaken was line (Ok whole) reader × (past ≡ with_whole whole before)

-- These lines are a trace of these events, of both the latest first: the last event is whole where the trace ends.
abbrev pub IsTrace : List (List ℕ) → List Placed → Type 0
IsTrace lines events =
    (past : List Placed) × (reader : ReaderValue) × IsReadTo lines past reader
    × (events ≡ with_whole reader.open_event past)

-- the lines that tell of an event that is whole, with these events above it
abbrev pub whole_text : OptionsValue → Strictness → List Placed → Option Placed → List ℕ
whole_text options strict past None = []
whole_text options strict past (Some placed) = event_text strict placed (found_at options past placed)
