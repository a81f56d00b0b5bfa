use Rattle.std.proofs.Common.{◌∙◌, ap, take}
use Rattle.std.proofs.lemmas.List.{with_items_is}
use Rattle.client_requests.proofs.Rooms.{shown}
use Rattle.client_requests.specs.Replies.{stale_reply}
use Rattle.client_requests.proofs.reply_room.ReplyRoom.put_stale.Goals as goal

pub returns-in-Some-clause-room : goal.returns-in-Some-clause-room
returns-in-Some-clause-room c =
    ap (take c.in-Some.length) (with_items_is c.self.inside.octets c.write_stale.new.room
    (c.write_stale.auto.room ∙ c.deref_mut.ensures.len))
    ∙ rw c.write_stale.ensures.room
    (shown c.deref_mut.result.now c.args.self.now (stale_reply c.args.request.now c.args.stored.now) c.in-Some.length
    (rw (← c.in-Some.is) c.write_stale.ensures.length))
