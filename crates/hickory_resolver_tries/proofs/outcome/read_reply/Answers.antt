use Rattle.hickory_resolver_tries.proofs.Asked.{believed_asks, reply_asks}
use Rattle.hickory_resolver_tries.proofs.outcome.read_reply.Goals as goal

pub returns-in-Ok-clause-asked : goal.returns-in-Ok-clause-asked
returns-in-Ok-clause-asked c = λ believed.
    let called = c.read_message.ensures in
    let q = c.args.message.now in
    reply_asks q.query c.read_message.result c.in-Ok.read called.message
    (believed_asks q c.args.form.now c.args.octets.now c.in-Ok.read called.absolute called.valid believed c.in-Ok.ensures)
