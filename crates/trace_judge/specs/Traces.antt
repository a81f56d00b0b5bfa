-- What is found in a whole trace.
use Rattle.std.specs.Prelude.{◌+◌, ℕ, List, [], ◌∷◌, ◌++◌, map}
use Rattle.trace_judge.specs.Judging.{event_findings}
use Rattle.trace_judge.specs.declared.classes.Finding.{Finding}
use Rattle.trace_judge.specs.declared.event.Event.{Event}
use Rattle.trace_judge.specs.Options.{OptionsValue}
use Rattle.trace_judge.specs.declared.trace.Judged.{Judged}

-- what is found in the line of this number
abbrev pub judged_at : ℕ → Finding → Judged
judged_at i finding = record { event = i; finding = finding }

-- What is found in these lines, which are numbered from i on, and of which `past` stands before them, the latest first.
abbrev pub findings_from : OptionsValue → List Event → ℕ → List Event → List Judged
findings_from options past i [] = []
findings_from options past i (event ∷ events) =
    map (judged_at i) (event_findings options past event) ++ findings_from options (event ∷ past) (i + 1) events

abbrev pub findings_in : OptionsValue → List Event → List Judged
findings_in options trace = findings_from options [] 0 trace
