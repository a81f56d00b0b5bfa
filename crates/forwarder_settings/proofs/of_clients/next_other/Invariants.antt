use Rattle.std.proofs.Common.{◌≡◌}
use Rattle.forwarder_settings.specs.OfClients.{other_lines}
use Rattle.forwarder_settings.proofs.of_clients.next_other.Given as goal

abbrev pub invariant-loop-line : goal.invariant-loop-line
invariant-loop-line l =
    (goal.iterator-loop-line).can_next l.lines × (goal.iterator-loop-line).is_finite l.lines
    × (other_lines l.lines.rest.now ≡ other_lines l.fn.settings)
