use Rattle.std.proofs.Common.{◌≡◌, ◌++◌, map, take, drop}
use Rattle.whole_replies.specs.Kept.{within_minimum}
use Rattle.whole_replies.proofs.kept_reply.keep_all_within_minimum.Given as goal

abbrev pub invariant-loop-found : goal.invariant-loop-found
invariant-loop-found l =
    l.found-items ≡ map within_minimum (take l.found-index l.initial.found-items)
    ++ drop l.found-index l.initial.found-items
