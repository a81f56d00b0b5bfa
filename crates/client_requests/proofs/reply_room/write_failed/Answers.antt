use Rattle.std.proofs.Common.{length}
use Rattle.client_queries.specs.Refusals.{question_octets}
use Rattle.failure_replies.specs.Failures.{failure_octets}
use Rattle.client_requests.proofs.Rooms.{fits_so}
use Rattle.client_requests.proofs.reply_room.write_failed.Goals as goal

pub returns-in-Some-clause-room : goal.returns-in-Some-clause-room
returns-in-Some-clause-room c =
    rw c.write_failure.ensures.room
    (fits_so c.args.room.now (failure_octets c.args.octets.now c.args.query.now c.args.reason)
    (length (question_octets c.args.octets.now c.args.query.now.question_end)) c.requires.room c.requires.short
    (c.failures_are_short.ensures c.args.octets.now c.args.query.now c.args.reason).beside_question)
