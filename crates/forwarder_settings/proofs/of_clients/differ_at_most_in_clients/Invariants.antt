use Rattle.std.proofs.Common.{◌≡◌, length}
use Rattle.forwarder_settings.specs.OfClients.{differ_at_most_in_clients, other_lines}
use Rattle.forwarder_settings.proofs.of_clients.differ_at_most_in_clients.Given as goal

abbrev pub invariant-loop-rest : goal.invariant-loop-rest
invariant-loop-rest l =
    differ_at_most_in_clients l.lines l.others ≡ differ_at_most_in_clients l.fn.one l.fn.other

abbrev pub decreases-loop-rest : goal.decreases-loop-rest
decreases-loop-rest l = length (other_lines l.lines)
