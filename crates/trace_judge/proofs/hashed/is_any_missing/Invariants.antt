use Rattle.std.proofs.Common.{◌≡◌, false}
use Rattle.trace_judge.specs.Below.{some_below}
use Rattle.trace_judge.specs.Evidence.{EvidenceValue}
use Rattle.trace_judge.specs.Hashed.{is_missing}
use Rattle.trace_judge.specs.Index.{Stands}
use Rattle.trace_judge.specs.Making.{lasts}
use Rattle.trace_judge.proofs.hashed.is_any_missing.Given as goal

-- none with fewer labels is such an encloser
abbrev pub invariant-loop-count : goal.invariant-loop-count
invariant-loop-count l = (e : EvidenceValue) → Stands e l.evidence
    → some_below l.count (is_missing (lasts e l.until) l.dns_class l.chain l.name l.denied) ≡ false
