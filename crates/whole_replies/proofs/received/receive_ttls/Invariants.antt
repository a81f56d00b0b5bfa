use Rattle.std.proofs.Common.{◌≡◌, ◌++◌, map, take, drop}
use Rattle.whole_replies.specs.Received.{with_received_ttl}
use Rattle.whole_replies.proofs.received.receive_ttls.Given as goal

abbrev pub invariant-loop-found : goal.invariant-loop-found
invariant-loop-found l =
    l.found-items ≡ map with_received_ttl (take l.found-index l.initial.found-items)
    ++ drop l.found-index l.initial.found-items
