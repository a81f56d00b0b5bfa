use Rattle.std.proofs.Common.{◌≡◌, ◌++◌, map, take, drop}
use Rattle.hickory_proto_core.specs.Records.{lower_ttl}
use Rattle.stored_replies.proofs.ageing.age_records.Given as goal

abbrev pub invariant-loop-older : goal.invariant-loop-older
invariant-loop-older l =
    l.older-items ≡ map (lower_ttl l.seconds) (take l.older-index l.initial.older-items)
    ++ drop l.older-index l.initial.older-items
