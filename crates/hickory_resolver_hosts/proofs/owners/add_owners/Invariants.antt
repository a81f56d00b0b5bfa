use Rattle.std.proofs.Common.{◌≡◌, ℕ, not, ◌||◌, ◌&&◌, ◌==◌, take}
use Rattle.hickory_resolver_hosts.specs.Index.{is_among, is_owner, EachAddress}
use Rattle.hickory_resolver_hosts.specs.HostsTable.{is_given}
use Rattle.hickory_resolver_hosts.proofs.owners.add_owners.Given as goal

abbrev pub invariant-loop-entry : goal.invariant-loop-entry
invariant-loop-entry l = record {
  added : EachAddress (λ a. is_among a l.added.items
      ≡ is_given l.record_type (take l.entry-index l.records) a && not (is_owner l.initial.owners a l.place));
  owners : EachAddress (λ a. (i : ℕ) → is_owner l.owners a i
      ≡ is_owner l.initial.owners a i || (is_among a l.added.items && (l.place == i)));
}
