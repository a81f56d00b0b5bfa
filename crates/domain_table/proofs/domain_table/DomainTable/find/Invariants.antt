use Rattle.std.proofs.Common.{length, drop, ◌-◌, ◌≡◌}
use Rattle.domain_table.specs.Names.{suffixes}
use Rattle.domain_table.specs.Domains.{first_of}
use Rattle.domain_table.proofs.domain_table.DomainTable.find.Given as goal

abbrev pub invariant-loop-place : goal.invariant-loop-place
invariant-loop-place g l =
    first_of l.self (suffixes (drop l.place l.name)) ≡ first_of l.self (suffixes l.name)

abbrev pub decreases-loop-place : goal.decreases-loop-place
decreases-loop-place g l = length l.name - l.place
