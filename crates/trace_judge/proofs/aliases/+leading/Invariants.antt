use Rattle.std.proofs.Common.{◌≡◌, ◌+◌, ◌*◌, false, take}
use Rattle.std.specs.List.{list_any}
use Rattle.trace_judge.specs.Index.{leads_in_by}
use Rattle.trace_judge.proofs.aliases.+leading.Given as goal

abbrev pub decreases-leads : goal.decreases-leads
decreases-leads l = 3 * l.hops

abbrev pub decreases-any_leads : goal.decreases-any_leads
decreases-any_leads l = 3 * l.hops + 2

abbrev pub decreases-leads_by : goal.decreases-leads_by
decreases-leads_by l = 3 * l.hops + 1

-- none of the aliases so far leads on
abbrev pub invariant-any_leads-loop-r : goal.invariant-any_leads-loop-r
invariant-any_leads-loop-r l =
    list_any (leads_in_by l.until l.seen l.class l.to l.hops l.from) (take l.r-index l.aliases) ≡ false
