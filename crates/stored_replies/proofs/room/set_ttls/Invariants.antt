use Rattle.std.proofs.Common.{◌≡◌, take}
use Rattle.stored_replies.specs.Walk.{all_set}
use Rattle.stored_replies.proofs.room.set_ttls.Given as goal

abbrev pub invariant-loop-place : goal.invariant-loop-place
invariant-loop-place l = l.room ≡ all_set l.ttl l.fn.room (take l.place-index l.places)
