use Rattle.std.proofs.Common.{◌≡◌, ◌≤◌, ◌+◌, drop, length}
use Rattle.whole_replies.specs.Ways.{names_from}
use Rattle.whole_replies.proofs.ways.count_from.Given as goal

abbrev pub invariant-loop-found : goal.invariant-loop-found
invariant-loop-found l =
    (l.count + length (names_from l.reached (drop l.found-index l.answers)) ≡ length (names_from l.name l.answers) + 1)
    × (l.count ≤ l.found-index + 1)
