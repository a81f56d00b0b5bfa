use Rattle.std.proofs.Common.{◌≡◌, ℕ, not, ◌&&◌, ◌==◌, take}
use Rattle.std.specs.declared.net.IpAddr.{IpAddr as Address}
use Rattle.hickory_resolver_hosts.specs.Index.{is_among, is_owner}
use Rattle.hickory_resolver_hosts.proofs.owners.remove_owners.Given as goal

abbrev pub invariant-loop-address : goal.invariant-loop-address
invariant-loop-address l =
    (a : Address) (i : ℕ) → is_owner l.owners a i
    ≡ is_owner l.initial.owners a i && not (is_among a (take l.address-index l.addresses) && (l.place == i))
