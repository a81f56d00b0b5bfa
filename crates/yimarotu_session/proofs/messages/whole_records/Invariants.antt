use Rattle.std.proofs.Common.{◌≡◌, ◌++◌, map, take, drop}
use Rattle.yimarotu_session.specs.Messages.{whole_record}
use Rattle.yimarotu_session.proofs.messages.whole_records.Given as goal

abbrev pub invariant-loop-owned : goal.invariant-loop-owned
invariant-loop-owned l =
    l.owned-items ≡ map whole_record (take l.owned-index l.initial.owned-items) ++ drop l.owned-index l.initial.owned-items
