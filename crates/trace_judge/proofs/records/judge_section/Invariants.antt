use Rattle.std.proofs.Common.{◌≡◌, ◌++◌, drop}
use Rattle.trace_judge.specs.Evidence.{EvidenceValue}
use Rattle.trace_judge.specs.Findings.{section_findings}
use Rattle.trace_judge.specs.Index.{Stands}
use Rattle.trace_judge.proofs.records.judge_section.Given as goal

-- what is found so far and in the rest is what is found in all
abbrev pub invariant-loop-i : goal.invariant-loop-i
invariant-loop-i l = (e : EvidenceValue) → Stands e l.evidence →
    l.found.items ++ section_findings e l.now l.query l.section l.i (drop l.i l.records)
    ≡ l.initial.found.items ++ section_findings e l.now l.query l.section 0 l.records
