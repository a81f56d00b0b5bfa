use Rattle.conversation.proofs.Beginnings.{made_with, not_made}
use Rattle.conversation.proofs.opening.make.Goals as goal

pub returns-in-Ok : goal.returns-in-Ok
returns-in-Ok c =
    made_with c.args.said.now c.args.configuration.now c.in-Ok.whole c.args.hosts.now c.args.now c.make_of.result c.in-Ok.ensures c.make_of.ensures

pub returns-in-Err : goal.returns-in-Err
returns-in-Err c = not_made c.args.said.now c.args.configuration.now c.args.hosts.now c.args.now c.in-Err.fault c.in-Err.ensures
