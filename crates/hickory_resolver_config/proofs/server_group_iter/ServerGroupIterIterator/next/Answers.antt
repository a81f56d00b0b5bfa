use Rattle.std.proofs.Common.{rules}
use Rattle.hickory_resolver_config.proofs.server_group_iter.ServerGroupIterIterator.next.Goals as goal

pub returns-clause-goes : goal.returns-clause-goes
returns-clause-goes c = search rules
