use Rattle.hickory_resolver_client.specs.Contexts.{progress_of}
use Rattle.hickory_resolver_theorems.proofs.CallsEnd.{call_left}
use Rattle.hickory_resolver.proofs.DrivenCalls.{DrivenSoFar}
use Rattle.hickory_resolver.proofs.driving.drive.Given as goal

abbrev pub invariant-loop-progress : goal.invariant-loop-progress
invariant-loop-progress g l =
    DrivenSoFar g.H.DnsHandle.step l.options l.hosts (progress_of l.fn.progress) l.fn.client (progress_of l.progress)
    l.client

abbrev pub decreases-loop-progress : goal.decreases-loop-progress
decreases-loop-progress g l = call_left (progress_of l.progress)
