use Rattle.std.proofs.Common.{◌≡◌, length}
use Rattle.std.specs.Slice.Iter.{iter_rest}
use Rattle.hickory_resolver_lookup.specs.LookupAddresses.{addresses_of}
use Rattle.hickory_resolver_lookup.proofs.lookup_ip.LookupIpIterIterator.next.Given as goal

abbrev pub invariant-loop-entry : goal.invariant-loop-entry
invariant-loop-entry l = addresses_of (iter_rest l.self-inside.records) ≡ l.fn.self

abbrev pub decreases-loop-entry : goal.decreases-loop-entry
decreases-loop-entry l = length (iter_rest l.self-inside.records)
