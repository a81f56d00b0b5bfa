use Rattle.std.proofs.Common.{List, [], ℕ}
use Rattle.std.specs.Io.KnownBytes.{Appends}
use Rattle.trace_judge.specs.Options.{OptionsValue}
use Rattle.trace_lines.specs.Reports.{HasHeard, told_text}
use Rattle.trace_lines.specs.Whole.{IsReadTo}
use Rattle.trace_lines.specs.declared.reader.Placed.{Placed}
use Rattle.trace_lines.specs.declared.verdict.Strictness.{Strictness}
use Rattle.trace_lines.proofs.Whole.{AreRead}
use Rattle.trace_lines.proofs.reporting.hear_lines.Given as goal

-- the lines so far were read, and what is told of their events is written
abbrev pub invariant-loop : goal.invariant-loop
invariant-loop g l = (options : OptionsValue) (strict : Strictness) → HasHeard options strict [] l.initial.session
    → (read : List (List ℕ)) × (past : List Placed) × IsReadTo read past l.lines × HasHeard options strict past l.session
    × Appends (g.W.Write.contents l.initial.writer) (g.W.Write.contents l.writer) (told_text options strict past)
    × AreRead (g.R.Read.remaining l.initial.reader) (g.R.Read.remaining l.reader) read
