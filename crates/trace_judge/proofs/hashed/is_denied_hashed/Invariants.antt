use Rattle.std.proofs.Common.{◌≡◌, false}
use Rattle.hickory_proto_core.specs.Name.{trimmed_name}
use Rattle.trace_judge.specs.Below.{some_below}
use Rattle.trace_judge.specs.Evidence.{EvidenceValue}
use Rattle.trace_judge.specs.Hashed.{is_denied_in, is_of_chain}
use Rattle.trace_judge.specs.Index.{Stands}
use Rattle.trace_judge.specs.Making.{lasts}
use Rattle.trace_judge.proofs.hashed.is_denied_hashed.Given as goal

-- no zone of fewer labels has such a chain
abbrev pub invariant-loop-count : goal.invariant-loop-count
invariant-loop-count l = (e : EvidenceValue) → Stands e l.evidence
    → some_below l.count (λ count. lasts e l.until (is_of_chain l.dns_class (trimmed_name count l.name)
    (is_denied_in (lasts e l.until) l.dns_class l.name l.denied))) ≡ false
