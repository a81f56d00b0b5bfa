use Rattle.hickory_resolver_pool_theorems.proofs.Ticks.{each_tick_lowers}
use Rattle.hickory_resolver_pool_theorems.proofs.laws.each_tick_lowers.Goals as goal

pub returns : goal.returns
returns c = each_tick_lowers
