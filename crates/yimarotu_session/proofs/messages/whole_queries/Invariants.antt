use Rattle.std.proofs.Common.{◌≡◌, ◌++◌, map, take, drop}
use Rattle.yimarotu_session.specs.Messages.{whole_query}
use Rattle.yimarotu_session.proofs.messages.whole_queries.Given as goal

abbrev pub invariant-loop-asked : goal.invariant-loop-asked
invariant-loop-asked l =
    l.asked-items ≡ map whole_query (take l.asked-index l.initial.asked-items) ++ drop l.asked-index l.initial.asked-items
