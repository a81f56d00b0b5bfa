use Rattle.std.proofs.Common.{◌≡◌, ◌++◌, drop}
use Rattle.whole_replies.specs.Ways.{names_from}
use Rattle.whole_replies.proofs.ways.push_names.Given as goal

abbrev pub invariant-loop-found : goal.invariant-loop-found
invariant-loop-found l =
    l.names.items ++ names_from l.reached (drop l.found-index l.answers) ≡ l.fn.names.items ++ names_from l.name l.answers
