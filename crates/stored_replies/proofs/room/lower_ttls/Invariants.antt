use Rattle.std.proofs.Common.{◌≡◌, take}
use Rattle.stored_replies.specs.Walk.{lowered}
use Rattle.stored_replies.proofs.room.lower_ttls.Given as goal

abbrev pub invariant-loop-place : goal.invariant-loop-place
invariant-loop-place l = l.room ≡ lowered l.seconds l.fn.room (take l.place-index l.places)
