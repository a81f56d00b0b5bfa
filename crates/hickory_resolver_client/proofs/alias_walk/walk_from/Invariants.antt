use Rattle.std.proofs.Common.{take}
use Rattle.hickory_resolver_model.specs.AliasWalk.{walk_from}
use Rattle.hickory_resolver_client.specs.Walks.{ShowsAs}
use Rattle.hickory_resolver_client.proofs.alias_walk.walk_from.Given as goal

abbrev pub invariant-loop-answer : goal.invariant-loop-answer
invariant-loop-answer l = ShowsAs (walk_from 0 l.asked l.asked (take l.answer-index l.answers)) l.walk
