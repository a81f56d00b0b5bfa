use Rattle.std.proofs.Common.{length}
use Rattle.client_queries.specs.Refusals.{question_octets}
use Rattle.client_queries.specs.Refusals.{refusal_octets}
use Rattle.client_requests.proofs.Rooms.{fits_so}
use Rattle.client_requests.proofs.reply_room.write_refused.Goals as goal

pub returns-in-Some-clause-room : goal.returns-in-Some-clause-room
returns-in-Some-clause-room c =
    rw c.write_refusal.ensures.room
    (fits_so c.args.room.now (refusal_octets c.args.octets.now c.args.query.now c.args.refusal)
    (length (question_octets c.args.octets.now c.args.query.now.question_end)) c.requires.room c.requires.short
    (c.refusals_are_short.ensures c.args.octets.now c.args.query.now c.args.refusal).beside_question)
