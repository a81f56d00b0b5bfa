use Rattle.std.proofs.Common.{◌≡◌, take}
use Rattle.trace_lines.specs.Reports.{with_found}
use Rattle.trace_lines.proofs.table.Counts.count.Given as goal

-- with the classes so far
abbrev pub invariant-loop-finding : goal.invariant-loop-finding
invariant-loop-finding l = l.self ≡ with_found l.fn.self l.event.said (take l.finding-index l.found)
