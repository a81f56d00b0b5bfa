use Rattle.std.proofs.Common.{◌≡◌, ℕ, ◌||◌, ◌&&◌, ◌==◌, take}
use Rattle.hickory_resolver_hosts.specs.Index.{is_owner, EachAddress}
use Rattle.hickory_resolver_hosts.specs.HostsTable.{is_given}
use Rattle.hickory_resolver_hosts.proofs.owners.add_first_owners.Given as goal

abbrev pub invariant-loop-entry : goal.invariant-loop-entry
invariant-loop-entry l = EachAddress (λ a. (i : ℕ) → is_owner l.owners a i
    ≡ is_owner l.initial.owners a i || (is_given l.record_type (take l.entry-index l.records) a && (l.place == i)))
