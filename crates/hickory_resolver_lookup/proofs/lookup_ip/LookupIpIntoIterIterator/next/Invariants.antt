use Rattle.std.proofs.Common.{◌≡◌}
use Rattle.std.specs.Vec.Iter.{into_iter_items, into_iter_len}
use Rattle.hickory_resolver_lookup.specs.LookupAddresses.{addresses_of}
use Rattle.hickory_resolver_lookup.proofs.lookup_ip.LookupIpIntoIterIterator.next.Given as goal

abbrev pub invariant-loop-taken : goal.invariant-loop-taken
invariant-loop-taken l = addresses_of (into_iter_items l.self-inside.records) ≡ l.fn.self

abbrev pub decreases-loop-taken : goal.decreases-loop-taken
decreases-loop-taken l = into_iter_len l.self-inside.records
