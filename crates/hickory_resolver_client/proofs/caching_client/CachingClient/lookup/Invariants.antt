use Rattle.hickory_resolver_client.specs.Contexts.{progress_of}
use Rattle.hickory_resolver_client.proofs.Driven.{IsDriven}
use Rattle.hickory_resolver_theorems.proofs.CallsEnd.{lookup_left}
use Rattle.hickory_resolver_client.proofs.caching_client.CachingClient.lookup.Given as goal

abbrev pub invariant-loop-progress : goal.invariant-loop-progress
invariant-loop-progress g l =
    IsDriven g.H.DnsHandle.step l.fn.options l.fn.now l.fn.self l.fn.query (progress_of l.progress) l.self

abbrev pub decreases-loop-progress : goal.decreases-loop-progress
decreases-loop-progress g l = lookup_left (progress_of l.progress)
