use Rattle.std.proofs.Common.{map, drop}
use Rattle.hickory_resolver_lookup.specs.Requests.{request_of}
use Rattle.hickory_resolver.proofs.ServedRuns.{SoFar}
use Rattle.hickory_resolver.proofs.serve.serve_each.Given as goal

abbrev pub invariant-loop-request : goal.invariant-loop-request
invariant-loop-request g l =
    SoFar g.H.DnsHandle.step g.L.Listener.hears g.L.Listener.fails l.fn.resolver l.fn.listener
    (map request_of l.requests) (map request_of (drop l.request-index l.requests)) l.resolver l.listener
