use Rattle.failure_replies.proofs.Placed.{three_parts}
use Rattle.failure_replies.proofs.room.put_parts.Goals as goal

pub returns : goal.returns
returns c =
    three_parts c.args.room.now c.args.head.now c.args.question.now c.args.opt.now c.put_at.new.room c.put_at-2.new.room
    c.put_at-3.new.room c.put_at.ensures c.put_at-2.ensures c.put_at-3.ensures
