use Rattle.hickory_resolver_pool_theorems.proofs.Opened.{channels_are_used_open}
use Rattle.hickory_resolver_pool_theorems.proofs.laws.channels_are_used_open.Goals as goal

pub returns : goal.returns
returns c = channels_are_used_open
