use Rattle.std.proofs.Common.{◌≡◌, false, take}
use Rattle.trace_judge.specs.Evidence.{EvidenceValue}
use Rattle.trace_judge.specs.Hashed.{is_denied_in}
use Rattle.trace_judge.specs.Index.{Stands, any_late}
use Rattle.trace_judge.specs.MadeIndex.{is_kept_chain}
use Rattle.trace_judge.specs.Making.{lasts}
use Rattle.trace_judge.proofs.hashed.any_chain.Given as goal

-- in no chain so far the denial is made
abbrev pub invariant-loop-r : goal.invariant-loop-r
invariant-loop-r l = (e : EvidenceValue) → Stands e l.evidence
    → any_late l.from (is_kept_chain l.dns_class l.zone (is_denied_in (lasts e l.until) l.dns_class l.name l.denied))
    (take l.r-index l.received) ≡ false
