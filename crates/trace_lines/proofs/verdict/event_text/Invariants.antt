use Rattle.std.proofs.Common.{◌≡◌, filter, string_bytes, take}
use Rattle.std.specs.List.{flat_map}
use Rattle.trace_lines.specs.Printing.{finding_text}
use Rattle.trace_lines.specs.Reports.{is_told_of}
use Rattle.trace_lines.proofs.verdict.event_text.Given as goal

-- the lines of the findings so far
abbrev pub invariant-loop-finding : goal.invariant-loop-finding
invariant-loop-finding l =
    string_bytes l.text ≡ flat_map (finding_text l.placed) (filter (is_told_of l.strictness l.found) (take l.finding-index l.found))
