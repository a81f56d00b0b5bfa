use Rattle.std.proofs.Common.{inl}
use Rattle.conversation.proofs.Beginnings.{bounds_told}
use Rattle.conversation.proofs.opening.make_of.Goals as goal

pub returns-in-Err : goal.returns-in-Err
returns-in-Err c = inl (bounds_told c.args.configuration c.args.hosts.now c.args.now c.in-Err.fault c.in-Err.ensures.0 c.in-Err.ensures.1)
